-- Which port is served next.
use Rattle.std.specs.Prelude.{ℕ, suc, Bool, false, cond, not, ◌&&◌, List, [], ◌∷◌, replicate, Some, None, Option, unwrap_or, nat_lt}
use Rattle.std.specs.Option.{option_or, option_map_or}
use Rattle.ports.specs.declared.port.Connection.{Connection}
use Rattle.ports.specs.declared.port.Port.{Port}
use Rattle.ports.specs.declared.table.Table.{Table}
use Rattle.ports.specs.Port.{new_port}
use Rattle.ports.specs.Terminals.{none_configured}

-- so many ports out of service, with the number that turn goes on after
unfoldable pub new_table : ℕ → ℕ → Table
new_table n last = record { ports = replicate n new_port; last = last }

abbrev pub in_service : Port → Bool
in_service k = not (none_configured k.terminals)

abbrev pub marked_expedited : Option Connection → Bool
marked_expedited o = option_map_or (λ (c : Connection). c.marks.expedited) o false

-- the lowest port that passes, counting from a number on
abbrev pub lowest : (ℕ → Port → Bool) → ℕ → List Port → Option ℕ
lowest f n [] = None
lowest f n (k ∷ ks) = cond (f n k) (Some n) (lowest f (suc n) ks)

-- one that is marked expedited, else the next after the last, else the lowest
abbrev pub turn : List Port → ℕ → Option ℕ
turn ks last =
    option_or (lowest (λ n k. in_service k && marked_expedited k.connection) 0 ks)
    (option_or (lowest (λ n k. in_service k && nat_lt last n) 0 ks)
    (lowest (λ n k. in_service k) 0 ks))

-- the port that turn remembers
abbrev pub named_last : Option ℕ → ℕ → ℕ
named_last named last = unwrap_or named last
