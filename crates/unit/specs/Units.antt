-- The unit: at first, and what stands in it beside its ports.
use Rattle.std.specs.Prelude.{◌≡◌, ℕ, cond, List, length, Some, None, Option, nat_lt}
use Rattle.codes.specs.declared.attachment.Attachment.{Attachment}
use Rattle.line.specs.State.{State}
use Rattle.procedures.specs.Performs.{Step}
use Rattle.ports.specs.declared.port.Port.{Port}
use Rattle.ports.specs.Asked.{Asked, AnswerTo}
use Rattle.ports.specs.Frame.{port_at, DoneAt}
use Rattle.ports.specs.Turn.{new_table}
use Rattle.unit.specs.declared.unit.Unit.{Unit}

abbrev pub new_unit : Attachment → Unit
new_unit m = record { attachment = m; table = new_table 32 31 }

-- what it is made for, and the port that turn named last
abbrev pub beside : Unit → Attachment × ℕ
beside u = (u.attachment, u.table.last)

abbrev pub with_last : ℕ → Unit → Unit
with_last n u = record { attachment = u.attachment; table = record { ports = u.table.ports; last = n } }

abbrev pub record_at : List Port → ℕ → Option Port
record_at ks p = cond (nat_lt p (length ks)) (Some (port_at ks p)) None

-- What a call with a line says in its contract: what became of the ports and the line, and that nothing else in
-- the unit changed.
pub record Serves {S : Type 0} (step : Step S) (tells : S → State) (p : ℕ) (q : Asked) (u : Unit) (s : S) (a : AnswerTo q) (u' : Unit) (s' : S) : Type 0 where
  pub outcome : DoneAt step tells u.attachment p q u.table.ports s a u'.table.ports s'
  pub kept : beside u' ≡ beside u
