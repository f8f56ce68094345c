-- The record that some bytes are, for each family of status: none where there are too few or too many.
use Rattle.std.specs.Prelude.{ℕ, cond, List, length, Some, None, Option, ◌==◌}
use Rattle.tca.specs.declared.status.SynchronousStatus.{SynchronousStatus}
use Rattle.tca.specs.declared.status.Event.{Event}
use Rattle.tca.specs.declared.status.ExpeditedStatus.{ExpeditedStatus}
use Rattle.tca.specs.Records.{synchronous_of, event_of, expedited_of}

abbrev pub if_long : {A : Type 0} → ℕ → (List ℕ → A) → List ℕ → Option A
if_long n of bs = cond (length bs == n) (Some (of bs)) None

abbrev pub synchronous_in : List ℕ → Option SynchronousStatus
synchronous_in = if_long 4 synchronous_of

abbrev pub event_in : List ℕ → Option Event
event_in = if_long 6 event_of

abbrev pub expedited_in : List ℕ → Option ExpeditedStatus
expedited_in = if_long 6 expedited_of
