use Rattle.tca.specs.Records.{expedited_bytes}
use Rattle.procedures.proofs.Steps.{◌▸◌, given, stops_as}
use Rattle.handing.proofs.expedite.Goals as goal

pub returns-in_err-status : goal.returns-in_err-status
returns-in_err-status g c = stops_as expedited_bytes _ c.from_residual.ensures.1 c.in_err-status.ensures

pub returns-in_err-write_row : goal.returns-in_err-write_row
returns-in_err-write_row g c = c.in_ok-status.ensures ▸ stops_as expedited_bytes _ c.from_residual-in_err-write_row.ensures.1 c.in_err-write_row.ensures

pub returns-in_err-write : goal.returns-in_err-write
returns-in_err-write g c =
    c.in_ok-status.ensures ▸ c.in_ok-write_row.ensures ▸ stops_as expedited_bytes _ c.from_residual-in_err-write.ensures.1 c.in_err-write.ensures

pub returns-in_err-send : goal.returns-in_err-send
returns-in_err-send g c =
    c.in_ok-status.ensures ▸ c.in_ok-write_row.ensures ▸ c.in_ok-write.ensures ▸ stops_as expedited_bytes _ c.from_residual-in_err-send.ensures.1 c.in_err-send.ensures

pub returns : goal.returns
returns g c = c.in_ok-status.ensures ▸ c.in_ok-write_row.ensures ▸ c.in_ok-write.ensures ▸ c.in_ok-send.ensures ▸ given
