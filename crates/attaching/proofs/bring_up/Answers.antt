use Rattle.procedures.proofs.Steps.{◌▸◌, stops}
use Rattle.attaching.proofs.bring_up.Goals as goal

pub returns-in_err-reply : goal.returns-in_err-reply
returns-in_err-reply g c = stops _ c.from_residual.ensures.1 c.in_err-reply.ensures

pub returns : goal.returns
returns g c = c.in_ok-reply.ensures ▸ rw c.said.ensures at c.attach_by.ensures
