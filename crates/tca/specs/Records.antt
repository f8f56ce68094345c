-- The records of the control area: each as its fields, and as the list of its bytes in record order.
use Rattle.std.specs.Prelude.{◌≡◌, ℕ, ◌+◌, ◌*◌, ◌/◌, ◌%◌, ◌<◌, List, [], ◌∷◌, length, slice_index}
use Rattle.tca.specs.declared.request.Request.{Request}
use Rattle.tca.specs.declared.status.SynchronousStatus.{SynchronousStatus}
use Rattle.tca.specs.declared.status.Event.{Event}
use Rattle.tca.specs.declared.status.ExpeditedStatus.{ExpeditedStatus}

-- the data address is the last two bytes, the high one first
abbrev pub request_of : List ℕ → Request
request_of bs = record {
  function = slice_index bs 0;
  p1 = slice_index bs 1;
  p2 = slice_index bs 2;
  p3 = slice_index bs 3;
  p4 = slice_index bs 4;
  terminal = slice_index bs 5;
  «data» = slice_index bs 6 * 256 + slice_index bs 7;
}

abbrev pub request_bytes : Request → List ℕ
request_bytes r =
    r.function ∷ r.p1 ∷ r.p2 ∷ r.p3 ∷ r.p4 ∷ r.terminal ∷ r.«data» / 256 ∷ r.«data» % 256 ∷ []

abbrev pub RequestBytesComeBack : Type 0
RequestBytesComeBack = (bs : List ℕ) → length bs ≡ 8 → ((k : ℕ) → slice_index bs k < 256) → request_bytes (request_of bs) ≡ bs

-- the status report by which a control unit says that it is ready
abbrev pub cu_ready : Request
cu_ready = request_of (0x02 ∷ 0x10 ∷ 0x00 ∷ 0x00 ∷ 0x00 ∷ 0xff ∷ 0x00 ∷ 0x00 ∷ [])

abbrev pub synchronous_of : List ℕ → SynchronousStatus
synchronous_of bs = record { dssv = slice_index bs 0; dssp = slice_index bs 1; dssp2 = slice_index bs 2; dssp3 = slice_index bs 3 }

abbrev pub synchronous_bytes : SynchronousStatus → List ℕ
synchronous_bytes s = s.dssv ∷ s.dssp ∷ s.dssp2 ∷ s.dssp3 ∷ []

abbrev pub event_of : List ℕ → Event
event_of bs = record {
  daev = slice_index bs 0;
  daep = slice_index bs 1;
  daep2 = slice_index bs 2;
  daep3 = slice_index bs 3;
  daep4 = slice_index bs 4;
  daltad = slice_index bs 5;
}

abbrev pub event_bytes : Event → List ℕ
event_bytes e = e.daev ∷ e.daep ∷ e.daep2 ∷ e.daep3 ∷ e.daep4 ∷ e.daltad ∷ []

abbrev pub expedited_of : List ℕ → ExpeditedStatus
expedited_of bs = record {
  exfrq = slice_index bs 0;
  exflt = slice_index bs 1;
  exfd1 = slice_index bs 2;
  exfd2 = slice_index bs 3;
  exfd3 = slice_index bs 4;
  exfd4 = slice_index bs 5;
}

abbrev pub expedited_bytes : ExpeditedStatus → List ℕ
expedited_bytes s = s.exfrq ∷ s.exflt ∷ s.exfd1 ∷ s.exfd2 ∷ s.exfd3 ∷ s.exfd4 ∷ []
