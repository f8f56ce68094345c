use Rattle.ports.proofs.Outcomes.{done}
use Rattle.calls.proofs.connecting.attach.Goals as goal

pub returns : goal.returns
returns g c = done g.met.L.Line.keeps c.in_ok-refuse_attach.ensures c.bring_up-attached.ensures c.settle_attach.ensures.value c.settle_attach.ensures.after
