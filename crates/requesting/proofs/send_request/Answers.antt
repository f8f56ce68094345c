use Rattle.procedures.proofs.Steps.{◌▸◌, stops}
use Rattle.requesting.proofs.send_request.Goals as goal

pub returns-in_err-write_data : goal.returns-in_err-write_data
returns-in_err-write_data g c = stops _ c.from_residual.ensures.1 c.in_err-write_data.ensures

pub returns : goal.returns
returns g c = c.in_ok-write_data.ensures ▸ c.start.ensures
