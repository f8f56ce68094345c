-- From one call to all of a run, and from what is kept to what the law says.
use Rattle.std.proofs.Common.{◌≡◌, ℕ, zero, suc, ◌+◌, ◌%◌, ◌^◌, ◌≤◌, Bool, true, false, not, eqb, List, [], replicate, is_some, Some, None, Option, sym, refl, ap, subst, inl, inr, arith, eqb-true}
use borrow.Author.Tests.{eqb-false}
use Rattle.codes.specs.declared.attachment.Attachment.{Attachment}
use Rattle.codes.specs.declared.number.Refusal.{Refusal}
use Rattle.codes.specs.declared.number.Refusal.TheVariants.{PortTooHigh, EqualTerminals}
use Rattle.tca.specs.Fields.{dpastat, exfak}
use Rattle.line.specs.State.{Device, State, at}
use Rattle.line.specs.Rules.{Lawful}
use Rattle.ports.specs.declared.port.Connection.{Connection}
use Rattle.ports.specs.declared.port.Port.{Port}
use Rattle.ports.specs.Port.{new_port, held}
use Rattle.ports.specs.Refusals.{if_disconnected}
use Rattle.ports.specs.Terminals.{some_equal}
use Rattle.ports.specs.Call.{Outcome}
use Rattle.ports.specs.Asked.{Asked, AnswerTo, call, configure, attach, poll, request, collect, take, expedite, fetch, drop}
use Rattle.ports.specs.Frame.{port_at}
use Rattle.counts.specs.Tally.{Tally, Entry, tells, lost_by, count_all, count_if, tally}
use Rattle.counts.specs.Run.{Lines, Step, Run, new, calls, turns}
use Rattle.counts.specs.Law.{Level, LevelWrapped, ConnectedAgrees, Agrees, CountsAgree}
use Rattle.counts.proofs.Live.{one_if}
use Rattle.counts.proofs.Invariant.{Own, Sound, Inv, Went, Broke, left_keeps, call_keeps}
use Rattle.ports.proofs.Refused.{passes}
use Rattle.counts.proofs.Keeps.{poll_went, collect_went, take_went, expedite_went, fetch_went, request_went, request_broke}
use Rattle.counts.proofs.Attaches.{attach_went, attach_broke}

-- a disconnected port owes the same whatever its device does
off_keeps : (n : Tally) (s : Option Connection) (d e : Device) → if_disconnected s ≡ None → Sound n s d → Sound n s e
off_keeps n None d e h i = i
off_keeps n (Some c) d e h i = cc

-- a refusal tells nothing
refusal_told : (m : Attachment) (q : Asked) (k : Port) (t : State) (r : Refusal) → tells q ((call m q k t).refusal r) ≡ []
refusal_told m (configure ts) k t r = refl
refusal_told m attach k t r = refl
refusal_told m poll k t r = refl
refusal_told m (request r' bs) k t r = refl
refusal_told m collect k t r = refl
refusal_told m take k t r = refl
refusal_told m (expedite response) k t r = refl
refusal_told m (fetch address long buffer) k t r = refl
refusal_told m drop k t r = refl

-- every call, at its port
module _ (m : Attachment) (n : Tally) (k : Port) (t : State) (law : Lawful t) (i : Inv n k t.device) where
  left : (u : State) → Sound (count_all (lost_by (held k.connection)) n) None u.device
  left u = left_keeps n k.connection t.device u.device i

  went : (q : Asked) → Went (call m q k t) (tells q) n k t
  went (configure ts) = λ e x u l. rw (ap (λ (s : State). s.device) l.1) i
  went attach = attach_went n k t law i
  went poll = poll_went n k t i
  went (request r bs) = request_went r bs n k t i
  went collect = collect_went n k t i
  went take = take_went m n k t i
  went (expedite response) = expedite_went response n k t i
  went (fetch address long buffer) = fetch_went address long buffer n k t i
  went drop = λ e x u l. left u

  broke : (q : Asked) → Broke (call m q k t) (tells q) n k t
  broke (configure ts) = λ e s u. off_keeps n k.connection t.device u.device (passes (some_equal ts) EqualTerminals (if_disconnected k.connection) e).1 i
  broke attach = attach_broke n k t i
  broke poll = λ e s u. left u
  broke (request r bs) = request_broke r bs n k t i
  broke collect = λ e s u. left u
  broke take = λ e s u. left u
  broke (expedite response) = λ e s u. left u
  broke (fetch address long buffer) = λ e s u. left u
  broke drop = λ e s u. left u

  outcome_keeps : (k' : Port) (t' : State) (q : Asked) (a : AnswerTo q) → Outcome (call m q k t) k t a k' t' → Inv (count_all (tells q a) n) k' t'.device
  outcome_keeps k' t' q a o = call_keeps (call m q k t) (tells q) n k t _ refl a k' t' o i (refusal_told m q k t) (went q) (broke q)

module _ (m : Attachment) (n : Tally) (p : ℕ) (q : Asked) (a : AnswerTo q) (ks ks' : List Port) (ts ts' : Lines) (s : Step m p q ks ts a ks' ts') where
  at_port : Inv n (port_at ks p) (ts p).device → Inv (count_all (tells q a) n) (port_at ks' p) (ts' p).device
  at_port i = elim s.call [
    | inl h ↦ outcome_keeps m n (port_at ks p) (ts p) s.lawful i (port_at ks' p) (ts' p) q a h.outcome
    | inr h ↦ rw (h.refused, refusal_told m q new_port (ts p) PortTooHigh, h.same_ports, h.same_line) i
  ]

  elsewhere : (r : ℕ) → (r ≡ p → ⊥) → Inv n (port_at ks r) (ts r).device → Inv n (port_at ks' r) (ts' r).device
  elsewhere r e i = elim s.call [
    | inl h ↦ rw (h.others r e, s.spared r e) i
    | inr h ↦ rw (h.same_ports, s.spared r e) i
  ]

  step_keeps : (r : ℕ) (b : Bool) → eqb p r ≡ b → Inv n (port_at ks r) (ts r).device → Inv (count_if b (tells q a) n) (port_at ks' r) (ts' r).device
  step_keeps r true e i = subst (λ z. Inv n (port_at ks z) (ts z).device → Inv (count_all (tells q a) n) (port_at ks' z) (ts' z).device) (eqb-true p r e) at_port i
  step_keeps r false e i = elsewhere r (λ z. eqb-false p r e (sym z)) i

new_at : (n p : ℕ) → port_at (replicate n new_port) p ≡ new_port
new_at zero p = refl
new_at (suc n) zero = refl
new_at (suc n) (suc p) = new_at n p

keeps : {m : Attachment} {h : List Entry} {ks : List Port} {ts : Lines} → Run m h ks ts → (r : ℕ) → Inv (tally r h) (port_at ks r) (ts r).device
keeps (new n) r = rw (new_at n r) (refl, refl)
keeps {m} (calls {h = h} {ks = ks} {ks' = ks'} {ts = ts} {ts' = ts'} {p = p} {q = q} {a = a} run s) r = step_keeps m (tally r h) p q a ks ks' ts ts' s r (eqb p r) refl (keeps run r)
keeps (turns run) r = keeps run r

-- the law in its own words

level : (b : Bool) (x y : ℕ) → x ≡ (y + one_if b) % 2 ^ 32 → LevelWrapped b x y
level true x y e = record { equal_exactly_when = (λ h. absurd (omega arith), λ h. cc); else_one_more = λ h. e }
level false x y e = record { equal_exactly_when = (λ h. refl, λ h. omega arith); else_one_more = λ h. cc }

-- a good toggle is 1 exactly when it is not 0
not_zero : (x : ℕ) → x ≤ 1 → eqb x 1 ≡ not (eqb x 0)
not_zero zero h = refl
not_zero (suc zero) h = refl
not_zero (suc (suc x)) h = absurd (omega arith)

balance : (b : Bool) (x y z : ℕ) → x ≡ y + z + one_if b → Level b (x ≡ y + z) (x ≡ y + z + 1)
balance true x y z e = record { equal_exactly_when = (λ h. absurd (omega arith), λ h. cc); else_one_more = λ h. e }
balance false x y z e = record { equal_exactly_when = (λ h. refl, λ h. omega arith); else_one_more = λ h. cc }

connected : (n : Tally) (c : Connection) (d : Device) → Own n c d → ConnectedAgrees n c d
connected n c d i =
    let l = i.live in
    record {
      taken_and_collected = level (is_some c.request) d.taken n.collected_since l.took;
      last_taken = λ h. l.newest;
      events_posted_and_handed_over = level (not (eqb (at d dpastat) 0)) d.events n.events_since (rw (not_zero (at d dpastat) i.good_event) at l.posted);
      expedited_posted_and_handed_over = level (not (eqb (at d exfak) 0)) d.expedited n.expedited_since (rw (not_zero (at d exfak) i.good_expedited) at l.posted_expedited);
    }

agrees : (n : Tally) (ts : List ℕ) (s : Option Connection) (d : Device) → Sound n s d → Agrees n (record { terminals = ts; connection = s }) d
agrees n ts None d i = record { connected = tt; accepted_and_collected_or_lost = balance false n.accepted_ever n.collected_ever n.lost_ever (omega (arith, i.0)); stands = i.1; holds = λ h. cc }
agrees n ts (Some c) d i = record { connected = connected n c d i; accepted_and_collected_or_lost = balance (is_some c.request) n.accepted_ever n.collected_ever n.lost_ever i.balanced; stands = i.stands; holds = i.holds }

pub counts_agree : CountsAgree
counts_agree m h ks ts run p = let k = port_at ks p in agrees (tally p h) k.terminals k.connection (ts p).device (keeps run p)
