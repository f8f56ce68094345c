-- A port's record: as it is at first, what it holds, and what becomes of it.
use Rattle.std.specs.Prelude.{ℕ, ◌-◌, Bool, false, [], ◌∷◌, is_some, None, Option, option_map, option_and_then}
use Rattle.std.specs.Option.{option_map_or}
use Rattle.tca.specs.declared.request.Request.{Request}
use Rattle.ports.specs.declared.port.Marks.{Marks}
use Rattle.ports.specs.declared.port.Connection.{Connection}
use Rattle.ports.specs.declared.port.Port.{Port}

abbrev pub no_terminal : ℕ
no_terminal = 0xff

abbrev pub new_port : Port
new_port = record { terminals = no_terminal ∷ no_terminal ∷ no_terminal ∷ no_terminal ∷ no_terminal ∷ []; connection = None }

abbrev pub no_marks : Marks
no_marks = record { expedited = false; ended = false; asynchronous = false }

-- the request that a port holds: accepted, and not yet collected
abbrev pub held : Option Connection → Option Request
held o = option_and_then (λ (c : Connection). c.request) o

abbrev pub is_active : Option Connection → Bool
is_active o = is_some (held o)

abbrev pub online : Option Connection → ℕ
online o = option_map_or (λ (c : Connection). c.online) o 0

-- the value of CUSYN that the next start writes: the other one
abbrev pub next_cusyn : Option Connection → ℕ
next_cusyn o = option_map_or (λ (c : Connection). 1 - c.cusyn) o 1

abbrev pub with_connection : Option Connection → Port → Port
with_connection o k = record k { connection = o }

-- a port whose connection is changed, if it has one
abbrev pub change : (Connection → Connection) → Port → Port
change f k = with_connection (option_map f k.connection) k

-- a disconnection leaves nothing but the addresses
abbrev pub disconnected : Port → Port
disconnected k = with_connection None k

abbrev pub with_marks : Marks → Connection → Connection
with_marks m c = record c { marks = m }

abbrev pub without_expedited : Marks → Marks
without_expedited m = record m { expedited = false }

abbrev pub without_ended : Marks → Marks
without_ended m = record m { ended = false }

abbrev pub without_asynchronous : Marks → Marks
without_asynchronous m = record m { asynchronous = false }
