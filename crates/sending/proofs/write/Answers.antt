use Rattle.procedures.proofs.Steps.{◌▸◌, given, stops}
use Rattle.sending.proofs.write.Goals as goal

pub returns-in_err-send : goal.returns-in_err-send
returns-in_err-send g c = stops _ c.from_residual.ensures.1 c.in_err-send.ensures

pub returns : goal.returns
returns g c = c.in_ok-send.ensures ▸ given
