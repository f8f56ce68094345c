use Rattle.ports.proofs.Outcomes.{done}
use Rattle.calls.proofs.polling.poll.Goals as goal

pub returns : goal.returns
returns g c = done g.met.L.Line.keeps c.in_ok-refuse_connected.ensures c.look-seen.ensures c.settle_poll.ensures.value c.settle_poll.ensures.after
