use Rattle.ports.proofs.Outcomes.{done}
use Rattle.calls.proofs.statuses.collect.Goals as goal

pub returns : goal.returns
returns g c = done g.met.L.Line.keeps c.in_ok-refuse_collect.ensures c.read_status-read.ensures c.settle_collect.ensures.value c.settle_collect.ensures.after
