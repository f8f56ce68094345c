use Rattle.ports.proofs.Outcomes.{done}
use Rattle.calls.proofs.statuses.expedite.Goals as goal

pub returns : goal.returns
returns g c = done g.met.L.Line.keeps c.in_ok-refuse_expedite.ensures c.expedite-read.ensures c.settle_expedite.ensures.value c.settle_expedite.ensures.after
