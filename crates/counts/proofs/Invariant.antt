-- What holds of a port and its device after every call, and how a call keeps it.
use Rattle.std.proofs.Common.{◌≡◌, ◌+◌, ◌%◌, ◌^◌, ◌≤◌, true, List, [], is_some, Some, None, Ok, Err, Option, Result, refl, arith}
use Rattle.codes.specs.declared.number.Refusal.{Refusal}
use Rattle.tca.specs.Fields.{dpastat, dpsstat, exfak}
use Rattle.tca.specs.declared.request.Request.{Request}
use Rattle.tca.specs.Records.{request_bytes}
use Rattle.line.specs.State.{Device, State, at, Choice}
use Rattle.procedures.specs.declared.silence.Silence.{Silence}
use Rattle.procedures.specs.Performed.{performed}
use Rattle.procedures.specs.Leaves.{Leaves}
use Rattle.procedures.proofs.Left.{leaves}
use Rattle.ports.specs.declared.port.Connection.{Connection}
use Rattle.ports.specs.declared.port.Port.{Port}
use Rattle.ports.specs.Port.{held}
use Rattle.ports.specs.Call.{Call, OutcomeBy}
use Rattle.counts.specs.Tally.{Told, Tally, count_all, lost_by, Disconnected}
use Rattle.counts.specs.Law.{standing_by}
use Rattle.counts.proofs.Live.{Live, one_if}

-- a connected port
pub record Own (n : Tally) (c : Connection) (d : Device) : Type 0 where
  pub live : Live (is_some c.request) c.cusyn ((n.collected_since + one_if (is_some c.request)) % 2 ^ 32) (request_bytes n.latest) n.events_since n.expedited_since d
  pub bit : c.cusyn ≤ 1
  pub good_event : at d dpastat ≤ 1
  pub good_expedited : at d exfak ≤ 1
  pub marked_asynchronous : c.marks.asynchronous ≡ true → at d dpastat ≡ 1
  pub marked_expedited : c.marks.expedited ≡ true → at d exfak ≡ 1
  pub marked_ended : c.marks.ended ≡ true → (is_some c.request ≡ true) × (at d dpsstat ≡ 1)
  pub balanced : n.accepted_ever ≡ n.collected_ever + n.lost_ever + one_if (is_some c.request)
  pub stands : n.standing ≡ standing_by c.request
  pub holds : is_some c.request ≡ true → c.request ≡ Some n.latest

abbrev pub Sound : Tally → Option Connection → Device → Type 0
Sound n None d = (n.accepted_ever ≡ n.collected_ever + n.lost_ever) × (n.standing ≡ Disconnected)
Sound n (Some c) d = Own n c d

abbrev pub Inv : Tally → Port → Device → Type 0
Inv n k d = Sound n k.connection d

-- a port that is left, with what it held
pub lost_keeps : (n : Tally) (w : Option Request) (e : Device) → n.accepted_ever ≡ n.collected_ever + n.lost_ever + one_if (is_some w) → Sound (count_all (lost_by (w)) n) None e
lost_keeps n None e b = (omega arith, refl)
lost_keeps n (Some r) e b = (omega arith, refl)

pub left_keeps : (n : Tally) (s : Option Connection) (d e : Device) → Sound n s d → Sound (count_all (lost_by (held s)) n) None e
left_keeps n None d e i = (i.0, refl)
left_keeps n (Some c) d e i = lost_keeps n c.request e i.balanced

-- Of every call: a refusal keeps all; otherwise it is enough to know what it leaves when it went through, and
-- what its answer makes of the port when it broke off.
module _ {X : Type 0} (c : Call X) (tell : X → List Told) (n : Tally) (k : Port) (t : State) where
  abbrev pub Went : Type 0
  Went = c.refused ≡ None → (x : c.Found) (u : State) → Leaves c.procedure t x u → Inv (count_all (tell (c.answers (Ok x))) n) (c.after (c.answers (Ok x))) u.device

  abbrev pub Broke : Type 0
  Broke = c.refused ≡ None → (e : Silence) (u : State) → Inv (count_all (tell (c.answers (Err e))) n) (c.after (c.answers (Err e))) u.device

  ends : (cs : List Choice) (r : Result c.Found Silence) → (performed c.procedure cs t).result ≡ r → c.refused ≡ None → Went → Broke
      → Inv (count_all (tell (c.answers (performed c.procedure cs t).result)) n) (c.after (c.answers (performed c.procedure cs t).result)) (performed c.procedure cs t).state.device
  ends cs (Ok x) h e went broke = rw h (went e x (performed c.procedure cs t).state (leaves c.procedure cs t x h))
  ends cs (Err s) h e went broke = rw h (broke e s (performed c.procedure cs t).state)

  pub call_keeps : (o : Option Refusal) → c.refused ≡ o → (a : X) (k' : Port) (t' : State) → OutcomeBy o c k t a k' t' → Inv n k t.device
      → ((r : Refusal) → tell (c.refusal r) ≡ []) → Went → Broke → Inv (count_all (tell a) n) k' t'.device
  call_keeps (Some r) e a k' t' (answer, same, line) i silent went broke = rw (same, line, answer, silent r) i
  call_keeps None e a k' t' (cs, answer, after, line) i silent went broke = rw (after, line, answer) (ends cs (performed c.procedure cs t).result refl e went broke)
