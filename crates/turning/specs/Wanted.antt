-- What is looked for among the ports, and the table that remembers what was found.
use Rattle.std.specs.Prelude.{◌≡◌, ℕ, Bool, List, Option}
use Rattle.std.specs.Fn.{Shared}
use denote.Ref.{Bor}
use Rattle.ports.specs.declared.port.Port.{Port}
use Rattle.ports.specs.declared.table.Table.{Table}
use Rattle.ports.specs.Turn.{lowest}

module _ {F : Type 0} (g : Shared F (ℕ × (Bor Port × Unit {0})) Bool) (f : F) where
  -- a closure tests a port, by its number and its record, as wants does
  abbrev pub Tests : (ℕ → Port → Bool) → Type 0
  Tests wants = (n : ℕ) (k : Bor Port) (b : Bool) → g.post f (n, (k, tt)) b → b ≡ wants n k.now

  -- the lowest port that passes such a test was found
  pub record FindsLowest (ks : List Port) (found : Option ℕ) : Type 0 where
    pub by : (wants : ℕ → Port → Bool) → Tests wants → found ≡ lowest wants 0 ks

abbrev pub with_last : ℕ → Table → Table
with_last n t = record { ports = t.ports; last = n }
