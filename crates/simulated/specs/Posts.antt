-- What a simulated device is after it posted a status.
use Rattle.std.specs.Prelude.{ℕ, ◌+◌, ◌%◌, ◌^◌, Bool, false, not, ◌&&◌, List, ◌==◌}
use Rattle.tca.specs.Fields.{dpastat, dpsstat, exfak, event_places, synchronous_places, expedited_places}
use Rattle.tca.specs.Records.{event_bytes, synchronous_bytes, expedited_bytes}
use Rattle.tca.specs.declared.status.Event.{Event}
use Rattle.tca.specs.declared.status.SynchronousStatus.{SynchronousStatus}
use Rattle.tca.specs.declared.status.ExpeditedStatus.{ExpeditedStatus}
use Rattle.line.specs.Posts.{posted}
use Rattle.line.specs.State.{Device, at}

-- whether a device may post over a toggle
abbrev pub free : ℕ → Device → Bool
free toggle d = not d.waiting && at d toggle == 0

-- with a status of a family posted, which is not counted yet
abbrev pub with_status : ℕ → List ℕ → List ℕ → Device → Device
with_status toggle places bytes d = record d { memory = posted toggle places bytes d.memory }

abbrev pub with_event : Event → Device → Device
with_event e d = record (with_status dpastat event_places (event_bytes e) d) { events = (d.events + 1) % 2 ^ 32 }

-- the end of the request in work: the device stops
abbrev pub with_end : SynchronousStatus → Device → Device
with_end e d = record (with_status dpsstat synchronous_places (synchronous_bytes e) d) { working = false }

abbrev pub with_expedited : ExpeditedStatus → Device → Device
with_expedited e d = record (with_status exfak expedited_places (expedited_bytes e) d) { expedited = (d.expedited + 1) % 2 ^ 32 }
