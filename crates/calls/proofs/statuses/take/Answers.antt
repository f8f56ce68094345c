use Rattle.ports.proofs.Outcomes.{done}
use Rattle.calls.proofs.statuses.take.Goals as goal

pub returns : goal.returns
returns g c = done g.met.L.Line.keeps c.in_ok-refuse_take.ensures (rw c.from.ensures at c.take_event-read.ensures) c.settle_take.ensures.value c.settle_take.ensures.after
