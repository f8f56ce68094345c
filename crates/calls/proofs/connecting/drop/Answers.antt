use Rattle.std.proofs.Common.{Ok, ap}
use Rattle.ports.proofs.Outcomes.{done}
use Rattle.calls.proofs.connecting.drop.Goals as goal

pub returns : goal.returns
returns g c = done g.met.L.Line.keeps c.in_ok-refuse_connected.ensures c.reset.ensures (ap Ok c.settle_drop.ensures.value) c.settle_drop.ensures.after
