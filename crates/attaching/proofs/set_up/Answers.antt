use Rattle.procedures.proofs.Steps.{◌▸◌, stops}
use Rattle.attaching.proofs.set_up.Goals as goal

pub returns-in_err-send : goal.returns-in_err-send
returns-in_err-send g c = stops _ c.from_residual.ensures.1 c.in_err-send.ensures

pub returns-in_err-clear : goal.returns-in_err-clear
returns-in_err-clear g c = c.in_ok-send.ensures ▸ stops _ c.from_residual-in_err-clear.ensures.1 c.in_err-clear.ensures

pub returns-in_err-write_row : goal.returns-in_err-write_row
returns-in_err-write_row g c =
    c.in_ok-send.ensures ▸ c.in_ok-clear.ensures ▸ stops _ c.from_residual-in_err-write_row.ensures.1 (rw c.terminal_places.ensures at c.in_err-write_row.ensures)

pub returns : goal.returns
returns g c =
    c.in_ok-send.ensures ▸ c.in_ok-clear.ensures ▸ (rw c.terminal_places.ensures at c.in_ok-write_row.ensures) ▸ (rw c.cu_ready.ensures at c.start.ensures)
