use Rattle.procedures.proofs.Steps.{◌▸◌, given, stops}
use Rattle.sending.proofs.starting.start.Goals as goal

pub returns-in_err-write_row : goal.returns-in_err-write_row
returns-in_err-write_row g c = stops _ c.from_residual.ensures.1 (rw (c.request_places.ensures, c.from.ensures.value) at c.in_err-write_row.ensures)

pub returns-in_err-write : goal.returns-in_err-write
returns-in_err-write g c = (rw (c.request_places.ensures, c.from.ensures.value) at c.in_ok-write_row.ensures) ▸ stops _ c.from_residual-in_err-write.ensures.1 c.in_err-write.ensures

pub returns-in_err-write-2 : goal.returns-in_err-write-2
returns-in_err-write-2 g c = (rw (c.request_places.ensures, c.from.ensures.value) at c.in_ok-write_row.ensures) ▸ c.in_ok-write.ensures ▸ stops _ c.from_residual-in_err-write-2.ensures.1 c.in_err-write-2.ensures

pub returns-in_err-send : goal.returns-in_err-send
returns-in_err-send g c =
    (rw (c.request_places.ensures, c.from.ensures.value) at c.in_ok-write_row.ensures) ▸ c.in_ok-write.ensures ▸ c.in_ok-write-2.ensures ▸ stops _ c.from_residual-in_err-send.ensures.1 c.in_err-send.ensures

pub returns : goal.returns
returns g c = (rw (c.request_places.ensures, c.from.ensures.value) at c.in_ok-write_row.ensures) ▸ c.in_ok-write.ensures ▸ c.in_ok-write-2.ensures ▸ c.in_ok-send.ensures ▸ given
