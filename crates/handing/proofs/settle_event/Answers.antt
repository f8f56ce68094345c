use Rattle.tca.specs.Records.{event_bytes}
use Rattle.procedures.proofs.Steps.{◌▸◌, given, stops_as}
use Rattle.handing.proofs.settle_event.Goals as goal

pub returns-in-NotAllowed : goal.returns-in-NotAllowed
returns-in-NotAllowed g c = let i = c.in-NotAllowed.is in rw i (c.reset.ensures ▸ given)

pub returns-in_err-write-in-Allowed : goal.returns-in_err-write-in-Allowed
returns-in_err-write-in-Allowed g c = let i = c.in-Allowed.is in rw i (stops_as event_bytes _ c.from_residual.ensures.1 c.in_err-write-in-Allowed.ensures)

pub returns-in_ok-write-in-Allowed : goal.returns-in_ok-write-in-Allowed
returns-in_ok-write-in-Allowed g c = let i = c.in-Allowed.is in rw i (c.in_ok-write-in-Allowed.ensures ▸ given)

pub returns-in_err-write-in-PermanentError : goal.returns-in_err-write-in-PermanentError
returns-in_err-write-in-PermanentError g c = let i = c.in-PermanentError.is in rw i (stops_as event_bytes _ c.from_residual-in_err-write-in-PermanentError.ensures.1 c.in_err-write-in-PermanentError.ensures)

pub returns-in_ok-write-in-PermanentError : goal.returns-in_ok-write-in-PermanentError
returns-in_ok-write-in-PermanentError g c = let i = c.in-PermanentError.is in rw i (c.in_ok-write-in-PermanentError.ensures ▸ c.reset-in-PermanentError.ensures ▸ given)
