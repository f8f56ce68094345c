use Rattle.tca.specs.Records.{event_bytes}
use Rattle.procedures.proofs.Steps.{◌▸◌, stops_as}
use Rattle.calls.proofs.statuses.take_event.Goals as goal

pub returns-in_err-event : goal.returns-in_err-event
returns-in_err-event g c = stops_as event_bytes _ c.from_residual.ensures.1 c.in_err-event.ensures

pub returns : goal.returns
returns g c = c.in_ok-event.ensures ▸ rw c.judge.ensures at c.settle_event.ensures
