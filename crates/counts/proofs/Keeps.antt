-- Each call keeps, at its port, what the law says and what the next call needs.
use Rattle.std.proofs.Common.{◌≡◌, ℕ, zero, suc, ◌+◌, ◌-◌, ◌%◌, ◌^◌, ◌<◌, ◌≤◌, Bool, true, false, not, ◌&&◌, eqb, ltb, List, ◌∷◌, length, get_or, set, is_some, Some, None, Ok, Option, sym, refl, ap, ◌∙◌, arith, get_or-set_other, get_or-set_same, ltb-false, ne_eqb, eqb-true}
use Rattle.std.specs.Bool.{then_some}
use Rattle.std.specs.Option.{option_map}
use Rattle.std.proofs.lemmas.Bool.{or_parts}
use borrow.Author.Tests.{clash}
use Rattle.codes.specs.declared.attachment.Attachment.{Attachment}
use Rattle.codes.specs.declared.number.Refusal.TheVariants.{NotMarked}
use Rattle.tca.specs.Fields.{dpastat, dpsstat, exfak, response_places, event_places, expedited_places, synchronous_places, data_area}
use Rattle.tca.specs.Records.{request_bytes, event_of}
use Rattle.tca.specs.declared.request.Request.{Request}
use Rattle.line.specs.State.{Device, State, Choice, at}
use Rattle.line.specs.Rules.{is_in, started}
use Rattle.line.specs.Posts.{put_row}
use Rattle.line.proofs.Rows.{row_other}
use Rattle.procedures.specs.Procedure.{rising}
use Rattle.procedures.specs.Leaves.{Leaves}
use Rattle.procedures.proofs.Rows.{with_memory, write_leaves, reads_leave, writes_leave, rising_from}
use Rattle.ports.specs.declared.port.Marks.{Marks}
use Rattle.ports.specs.declared.port.Connection.{Connection}
use Rattle.ports.specs.declared.port.Port.{Port}
use Rattle.ports.specs.declared.seen.Seen.{Seen}
use Rattle.ports.specs.declared.seen.Seen.TheVariants.{Restart, Clean, Bad, Toggles}
use Rattle.ports.specs.declared.verdict.Verdict.{Verdict}
use Rattle.ports.specs.declared.verdict.Verdict.TheVariants.{NotAllowed, Allowed, PermanentError}
use Rattle.ports.specs.Port.{no_marks, with_marks, without_expedited, next_cusyn}
use Rattle.ports.specs.Refusals.{if_connected, outside, refuse_request, refuse_collect, refuse_take, refuse_expedite, nothing_else}
use Rattle.ports.specs.Sendings.{polls, requests, collects, settles, expedites}
use Rattle.ports.specs.Calls.{with_collected, with_event, with_request, poll_answer, polled_after, take_by, judged, taken_after, poll_call, request_call, collect_call, take_call, expedite_call, fetch_call}
use Rattle.ports.specs.Asked.{poll, request, collect, take, expedite, fetch}
use Rattle.counts.specs.Tally.{Tally, count, count_all, tells, lost_by, event_handed, expedited_handed, collected, accepted}
use Rattle.counts.proofs.Live.{Live, one_if, poll_live}
use Rattle.counts.proofs.Invariant.{Own, Sound, Inv, left_keeps, lost_keeps, Went, Broke}
use Rattle.ports.proofs.Refused.{neither, is_connected, request_not_refused}
use Rattle.counts.proofs.Statuses.{PastToggles, rows_live, event_live, expedited_live}
use Rattle.counts.proofs.Starts.{starts_leave, start_live, prepared}
use Rattle.counts.proofs.Looks.{polls_leave}

-- a mark without which the call is refused
is_marked : (b : Bool) → then_some (not b) NotMarked ≡ None → b ≡ true
is_marked true h = refl
is_marked false h = cc

-- a connection with other marks, at a device that acted
own_marks : (n : Tally) (c : Connection) (m : Marks) (b d : Device) → Own n c b
    → Live (is_some c.request) c.cusyn ((n.collected_since + one_if (is_some c.request)) % 2 ^ 32) (request_bytes n.latest) n.events_since n.expedited_since d
    → at d dpastat ≤ 1 → at d exfak ≤ 1
    → (m.asynchronous ≡ true → at d dpastat ≡ 1) → (m.expedited ≡ true → at d exfak ≡ 1) → (m.ended ≡ true → (is_some c.request ≡ true) × (at d dpsstat ≡ 1))
    → Own n (with_marks m c) d
own_marks n c m b d i l ga ge ma me ms = record { live = l; bit = i.bit; good_event = ga; good_expedited = ge; marked_asynchronous = ma; marked_expedited = me; marked_ended = ms; balanced = i.balanced; stands = i.stands; holds = i.holds }

-- poll

ended_mark : (w b : Bool) (x : ℕ) → (w && b) ≡ true → (b ≡ true → x ≡ 1) → (w ≡ true) × (x ≡ 1)
ended_mark true b x h f = (refl, f h)
ended_mark false b x h f = cc

module _ (n : Tally) (c : Connection) (t u : State) (i : Own n c t.device) where
  polled_clean : Leaves polls t Clean u → Own n (with_marks no_marks c) u.device
  polled_clean l =
      let p = polls_leave t u Clean l in
      let d = p.0 in
      let s = p.2 in
      let live = poll_live (is_some c.request) c.cusyn _ _ _ _ t.device d i.live p.1 s.0 in
      rw s.1 (own_marks n c no_marks t.device d i live (omega (arith, s.2)) (omega (arith, s.3)) (λ h. cc) (λ h. cc) (λ h. cc))

  polled_toggles : (x s a : ℕ) → Leaves polls t (Toggles x s a) u
      → Own n (with_marks (record { expedited = eqb x 1; ended = is_some c.request && eqb s 1; asynchronous = eqb a 1 }) c) u.device
  polled_toggles x s a l =
      let p = polls_leave t u (Toggles x s a) l in
      let d = p.0 in
      let q = p.2 in
      let live = poll_live (is_some c.request) c.cusyn _ _ _ _ t.device d i.live p.1 q.0 in
      rw q.1 (own_marks n c _ t.device d i live (omega (arith, q.4, q.6)) (omega (arith, q.2, q.5))
      (λ h. sym q.4 ∙ eqb-true a 1 h) (λ h. sym q.2 ∙ eqb-true x 1 h)
      (λ h. ended_mark (is_some c.request) (eqb s 1) (at d dpsstat) h (λ g. sym q.3 ∙ eqb-true s 1 g)))

abbrev port : List ℕ → Option Connection → Port
port ts s = record { terminals = ts; connection = s }

module _ (n : Tally) (ts : List ℕ) where
  poll_goes : (s : Option Connection) (t : State) → Sound n s t.device → if_connected s nothing_else ≡ None → (x : Seen) (u : State) → Leaves polls t x u
      → Inv (count_all (tells poll (poll_answer (port ts s) (Ok x))) n) (polled_after (port ts s) (poll_answer (port ts s) (Ok x))) u.device
  poll_goes None t i e x u l = cc
  poll_goes (Some c) t i e Restart u l = left_keeps n (Some c) t.device u.device i
  poll_goes (Some c) t i e Clean u l = polled_clean n c t u i l
  poll_goes (Some c) t i e (Bad a) u l = left_keeps n (Some c) t.device u.device i
  poll_goes (Some c) t i e (Toggles x y a) u l = polled_toggles n c t u i x y a l

pub poll_went : (n : Tally) (k : Port) (t : State) → Inv n k t.device → Went (poll_call k) (tells poll) n k t
poll_went n k t i e x u l = poll_goes n k.terminals k.connection t i (is_connected nothing_else k e) x u l

-- collect

own_collect : (n : Tally) (c : Connection) (d : Device) → refuse_collect c ≡ None → Own n c d → Own (count collected n) (with_collected c) d
own_collect n c d e i =
    let ended = i.marked_ended (is_marked c.marks.ended (neither _ _ e).0) in
    let l = rw ended.0 at i.live in
    let b = rw ended.0 at i.balanced in
    record {
      live = record {
        sized = l.sized;
        awake = l.awake;
        saw = l.saw;
        took = omega (arith, l.took);
        newest = l.newest;
        works = rw ended.1 at l.works;
        posted = l.posted;
        posted_expedited = l.posted_expedited;
      };
      bit = i.bit;
      good_event = i.good_event;
      good_expedited = i.good_expedited;
      marked_asynchronous = i.marked_asynchronous;
      marked_expedited = i.marked_expedited;
      marked_ended = λ h. cc;
      balanced = omega (arith, b);
      stands = refl;
      holds = λ h. cc;
    }

collect_goes : (n : Tally) (s : Option Connection) (t u : State) → Sound n s t.device → if_connected s refuse_collect ≡ None → (bs : List ℕ) → Leaves collects t bs u → Sound (count collected n) (option_map with_collected s) u.device
collect_goes n None t u i e bs l = cc
collect_goes n (Some c) t u i e bs l = rw (reads_leave synchronous_places t u bs l).1 (own_collect n c t.device e i)

pub collect_went : (n : Tally) (k : Port) (t : State) → Inv n k t.device → Went (collect_call k) (tells collect) n k t
collect_went n k t i e bs u l = collect_goes n k.connection t u i (is_connected refuse_collect k e) bs l

-- take

own_take : (n : Tally) (c : Connection) (v : Verdict) (d : Device) → refuse_take c ≡ None → Own n c d → Own (count event_handed n) (with_event v c) (with_memory (set d.memory dpastat 0) d)
own_take n c v d e i =
    let one = i.marked_asynchronous (is_marked c.marks.asynchronous (neither _ _ e).0) in
    let big = i.live.sized in
    let cleared : get_or (set d.memory dpastat 0) dpastat 0 ≡ 0 = get_or-set_same d.memory dpastat 0 0 (omega arith) in
    let at_s : get_or (set d.memory dpastat 0) dpsstat 0 ≡ at d dpsstat = get_or-set_other d.memory dpastat dpsstat 0 0 (omega arith) in
    let at_e : get_or (set d.memory dpastat 0) exfak 0 ≡ at d exfak = get_or-set_other d.memory dpastat exfak 0 0 (omega arith) in
    record {
      live = event_live (is_some c.request) c.cusyn _ _ _ _ d i.live one;
      bit = i.bit;
      good_event = rw cleared (omega arith);
      good_expedited = rw at_e i.good_expedited;
      marked_asynchronous = λ h. cc;
      marked_expedited = λ h. at_e ∙ i.marked_expedited h;
      marked_ended = λ h. ((i.marked_ended h).0, at_s ∙ (i.marked_ended h).1);
      balanced = i.balanced;
      stands = i.stands;
      holds = i.holds;
    }

module _ (m : Attachment) (n : Tally) (ts : List ℕ) (s : Option Connection) where
  TakenSound : List ℕ → Device → Type 0
  TakenSound bs d = let k = port ts s in Inv (count_all (tells take (take_by k (judged m k (event_of bs)) (event_of bs))) n) (taken_after m k (take_by k (judged m k (event_of bs)) (event_of bs))) d

take_goes : (m : Attachment) (n : Tally) (ts : List ℕ) (s : Option Connection) (t w u : State) (v : Verdict) (ds bs : List ℕ) → Sound n s t.device → if_connected s refuse_take ≡ None
    → judged m (port ts s) (event_of ds) ≡ v → w.device ≡ t.device → Leaves (settles v ds) w bs u → TakenSound m n ts s bs u.device
unfolding TakenSound
take_goes m n ts None t w u v ds bs i e h same l = cc
take_goes m n ts (Some c) t w u NotAllowed ds bs i e h same (x, z, p, (b, f)) = rw (b, h) (left_keeps n (Some c) t.device u.device i)
take_goes m n ts (Some c) t w u (Allowed on) ds bs i e h same (x, z, p, (b, f)) =
    let wrote : u.device ≡ with_memory (set t.device.memory dpastat 0) t.device =
    ap (λ (y : State). y.device) f ∙ write_leaves dpastat 0 w z x p ∙ ap (λ (d : Device). with_memory (set d.memory dpastat 0) d) same in
    rw (b, h, h, wrote) (own_take n c (Allowed on) t.device e i)
take_goes m n ts (Some c) t w u PermanentError ds bs i e h same (x, z, p, (y, q, r, (b, f))) =
    rw (b, h) (lost_keeps (count event_handed n) c.request u.device i.balanced)

pub take_went : (m : Attachment) (n : Tally) (k : Port) (t : State) → Inv n k t.device → Went (take_call m k) (tells take) n k t
unfolding TakenSound
take_went m n k t i e bs u (ds, w, l, rest) =
    take_goes m n k.terminals k.connection t w u (judged m k (event_of ds)) ds bs i (is_connected refuse_take k e) refl (reads_leave event_places t w ds l).1 rest

-- expedite

own_expedite : (n : Tally) (c : Connection) (response : List ℕ) (d : Device) → refuse_expedite c ≡ None → Own n c d
    → Own (count expedited_handed n) (with_marks (without_expedited c.marks) c) (with_memory (set (put_row response_places response d.memory) exfak 0) d)
own_expedite n c response d e i =
    let row = put_row response_places response d.memory in
    let r : Device = with_memory row d in
    let past : PastToggles response_places = record { not_dpastat = refl; not_dpsstat = refl; not_exfak = refl } in
    let l = rows_live (is_some c.request) c.cusyn _ _ _ _ d i.live response_places response past in
    let same_e : at r exfak ≡ at d exfak = row_other response_places response d.memory exfak refl in
    let same_a : at r dpastat ≡ at d dpastat = row_other response_places response d.memory dpastat refl in
    let same_s : at r dpsstat ≡ at d dpsstat = row_other response_places response d.memory dpsstat refl in
    let big = l.sized in
    let cleared : get_or (set row exfak 0) exfak 0 ≡ 0 = get_or-set_same row exfak 0 0 (omega arith) in
    let at_a : get_or (set row exfak 0) dpastat 0 ≡ at d dpastat = get_or-set_other row exfak dpastat 0 0 (omega arith) ∙ same_a in
    let at_s : get_or (set row exfak 0) dpsstat 0 ≡ at d dpsstat = get_or-set_other row exfak dpsstat 0 0 (omega arith) ∙ same_s in
    record {
      live = expedited_live (is_some c.request) c.cusyn _ _ _ _ r l (same_e ∙ i.marked_expedited (is_marked c.marks.expedited e));
      bit = i.bit;
      good_event = rw at_a i.good_event;
      good_expedited = rw cleared (omega arith);
      marked_asynchronous = λ h. at_a ∙ i.marked_asynchronous h;
      marked_expedited = λ h. cc;
      marked_ended = λ h. ((i.marked_ended h).0, at_s ∙ (i.marked_ended h).1);
      balanced = i.balanced;
      stands = i.stands;
      holds = i.holds;
    }

expedite_goes : (n : Tally) (s : Option Connection) (response : List ℕ) (t u : State) → Sound n s t.device → if_connected s refuse_expedite ≡ None → (bs : List ℕ) → Leaves (expedites response) t bs u
    → Sound (count expedited_handed n) (option_map (λ c. with_marks (without_expedited c.marks) c) s) u.device
expedite_goes n None response t u i e bs l = cc
expedite_goes n (Some c) response t u i e bs (cs, m₁, reading, (x, m₂, responding, (y, m₃, clearing, (z, m₄, identifying, (b, f))))) =
    let one = (reads_leave expedited_places t m₁ cs reading).1 in
    let two = writes_leave response_places response m₁ m₂ x responding in
    let three = write_leaves exfak 0 m₂ m₃ y clearing in
    let all : u.device ≡ with_memory (set (put_row response_places response t.device.memory) exfak 0) t.device =
    ap (λ (v : State). v.device) f ∙ identifying.1 ∙ three
    ∙ ap (λ (d : Device). with_memory (set d.memory exfak 0) d) (two ∙ ap (λ (d : Device). with_memory (put_row response_places response d.memory) d) one) in
    rw all (own_expedite n c response t.device e i)

pub expedite_went : (response : List ℕ) (n : Tally) (k : Port) (t : State) → Inv n k t.device → Went (expedite_call response k) (tells (expedite response)) n k t
expedite_went response n k t i e bs u l = expedite_goes n k.connection response t u i (is_connected refuse_expedite k e) bs l

-- fetch leaves the device as it is

pub fetch_went : (address long : ℕ) (buffer : List ℕ) (n : Tally) (k : Port) (t : State) → Inv n k t.device → Went (fetch_call address long buffer k t) (tells (fetch address long buffer)) n k t
fetch_went address long buffer n k t i e bs u l = rw (reads_leave (rising address long) t u bs l).1 i

-- request

-- data that is not outside touches no toggle
data_row : (size address long j : ℕ) → outside size address long ≡ false → j < data_area → is_in (rising address long) j ≡ false
unfolding rising
data_row size address zero j h low = refl
data_row size address (suc long) j h low =
    let inside = (or_parts (ltb 4096 (suc long)) _ h).1 in
    let some : eqb (suc long) 0 ≡ false = ne_eqb (suc long) 0 (λ z. omega arith) in
    let above = ltb-false address data_area (or_parts (ltb address data_area) (ltb size (address + suc long)) (rw some at inside)).0 in
    rising_from address (suc long) j (omega arith)

data_past : (size address long : ℕ) → outside size address long ≡ false → PastToggles (rising address long)
data_past size address long h = record { not_dpastat = data_row size address long dpastat h (omega arith); not_dpsstat = data_row size address long dpsstat h (omega arith); not_exfak = data_row size address long exfak h (omega arith) }

module _ (n : Tally) (c : Connection) (r : Request) (bs : List ℕ) (d : Device) where
  own_request : is_some c.request ≡ false → PastToggles (rising r.«data» (length bs)) → Own n c d → (ch : Choice)
      → Own (count (accepted r) n) (with_request r c) (started ch (with_memory (prepared r (1 - c.cusyn) (put_row (rising r.«data» (length bs)) bs d.memory)) d))
  own_request idle past i ch =
      let ps = rising r.«data» (length bs) in
      let b : Device = with_memory (put_row ps bs d.memory) d in
      let l = rw idle at (rows_live (is_some c.request) c.cusyn _ _ _ _ d i.live ps bs past) in
      let y = 1 - c.cusyn in
      let saw = l.saw in
      let bit = i.bit in
      let s = start_live ch r y n.collected_since n.events_since n.expedited_since b l.sized l.awake l.works (omega arith) (omega (arith, l.took)) l.posted l.posted_expedited in
      let same_a : at b dpastat ≡ at d dpastat = row_other ps bs d.memory dpastat past.not_dpastat in
      let same_e : at b exfak ≡ at d exfak = row_other ps bs d.memory exfak past.not_exfak in
      let bal = rw idle at i.balanced in
      record {
        live = s.0;
        bit = omega arith;
        good_event = rw (s.1 ∙ same_a) i.good_event;
        good_expedited = rw (s.2 ∙ same_e) i.good_expedited;
        marked_asynchronous = λ h. s.1 ∙ same_a ∙ i.marked_asynchronous h;
        marked_expedited = λ h. s.2 ∙ same_e ∙ i.marked_expedited h;
        marked_ended = λ h. absurd (clash (sym idle ∙ (i.marked_ended h).0));
        balanced = omega (arith, bal);
        stands = refl;
        holds = λ h. refl;
      }

module _ (n : Tally) (ts : List ℕ) (r : Request) (bs : List ℕ) where
  request_goes : (s : Option Connection) (t u : State) → Sound n s t.device → if_connected s (refuse_request ts (length t.device.memory) r (length bs)) ≡ None → (x : Unit {0}) → Leaves (requests r bs (next_cusyn s)) t x u
      → Sound (count (accepted r) n) (option_map (with_request r) s) u.device
  request_goes None t u i e x l = cc
  request_goes (Some c) t u i e x (y, m, rows, rest) =
      let f = request_not_refused ts r (length t.device.memory) (length bs) c e in
      let past = data_past (length t.device.memory) r.«data» (length bs) f.1 in
      let one = writes_leave (rising r.«data» (length bs)) bs t m y rows in
      let two = starts_leave r (1 - c.cusyn) m u x rest in
      let all : u.device ≡ started two.0 (with_memory (prepared r (1 - c.cusyn) (put_row (rising r.«data» (length bs)) bs t.device.memory)) t.device) =
      two.1 ∙ ap (λ (d : Device). started two.0 (with_memory (prepared r (1 - c.cusyn) d.memory) d)) one in
      rw all (own_request n c r bs t.device f.0 past i two.0)

pub request_went : (r : Request) (bs : List ℕ) (n : Tally) (k : Port) (t : State) → Inv n k t.device → Went (request_call r bs k t) (tells (request r bs)) n k t
request_went r bs n k t i e x u l = request_goes n k.terminals r bs k.connection t u i (is_connected (refuse_request k.terminals (length t.device.memory) r (length bs)) k e) x l

-- broken off, it is accepted and lost

request_breaks : (n : Tally) (ts : List ℕ) (r : Request) (bs : List ℕ) (s : Option Connection) (t u : State) → Sound n s t.device → if_connected s (refuse_request ts (length t.device.memory) r (length bs)) ≡ None
    → Sound (count_all (accepted r ∷ lost_by (Some r)) n) None u.device
request_breaks n ts r bs None t u i e = cc
request_breaks n ts r bs (Some c) t u i e =
    let f = request_not_refused ts r (length t.device.memory) (length bs) c e in
    let b = rw f.0 at i.balanced in
    (omega (arith, b), refl)

pub request_broke : (r : Request) (bs : List ℕ) (n : Tally) (k : Port) (t : State) → Inv n k t.device → Broke (request_call r bs k t) (tells (request r bs)) n k t
request_broke r bs n k t i e x u = request_breaks n k.terminals r bs k.connection t u i (is_connected (refuse_request k.terminals (length t.device.memory) r (length bs)) k e)
