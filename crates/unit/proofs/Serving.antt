-- A call on one port's record, as a call of the unit.
use Rattle.std.proofs.Common.{◌≡◌, ℕ, ◌<◌, length, get_or, set, refl}
use Rattle.line.specs.State.{State}
use Rattle.procedures.specs.Performs.{Step}
use Rattle.ports.specs.declared.port.Port.{Port}
use Rattle.ports.specs.Call.{Done}
use Rattle.ports.specs.Asked.{Asked, AnswerTo, call}
use Rattle.ports.proofs.Frames.{served_at}
use Rattle.unit.specs.declared.unit.Unit.{Unit}
use Rattle.unit.specs.Units.{Serves}

pub serves : {S : Type 0} {step : Step S} {tells : S → State} {p i : ℕ} {q : Asked} {u : Unit} {s s' : S} {a : AnswerTo q} {k' : Port} (d : Port)
    → (i ≡ p) × (i < length u.table.ports) → Done step tells (call u.attachment q (get_or u.table.ports i d) (tells s)) (get_or u.table.ports i d) s a k' s'
    → Serves step tells p q u s a (record { attachment = u.attachment; table = record { ports = set u.table.ports i k'; last = u.table.last } }) s'
serves {i = i} {q = q} {u = u} {a = a} {k' = k'} d at done = record { outcome = served_at u.attachment q u.table.ports i a k' d at done; kept = refl }
