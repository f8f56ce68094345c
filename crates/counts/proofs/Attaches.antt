-- Attach begins from a waiting restart, where all is as new.
use Rattle.std.proofs.Common.{◌≡◌, ℕ, ◌+◌, ◌<◌, ◌≤◌, Bool, true, false, cond, ◌&&◌, eqb, List, [], ◌∷◌, length, Some, None, Ok, Option, sym, refl, ap, ◌∙◌, arith}
use Rattle.std.specs.Bool.{then_some}
use Rattle.std.specs.Option.{option_or}
use borrow.Author.Tests.{clash}
use Rattle.codes.specs.declared.number.Refusal.TheVariants.{NotConfigured}
use Rattle.tca.specs.Fields.{dpastat, dpsstat, exfak, unit_half, terminal_places}
use Rattle.tca.specs.Records.{cu_ready}
use Rattle.line.specs.declared.command.Command.TheVariants.{Poll}
use Rattle.line.specs.declared.command.PollAnswer.{PollAnswer}
use Rattle.line.specs.declared.command.PollAnswer.TheVariants.{Reset as RestartWaits, Status, Clean as NoStatus}
use Rattle.line.specs.State.{Device, State, Choice, at}
use Rattle.line.specs.Rules.{says, is_in, started, acknowledged, New, Lawful}
use Rattle.line.specs.Posts.{put_row}
use Rattle.line.proofs.Implied.{effect_new}
use Rattle.line.proofs.Rows.{row_length, row_other}
use Rattle.procedures.specs.Procedure.{said, rising}
use Rattle.procedures.specs.Leaves.{effects, Leaves}
use Rattle.procedures.proofs.Left.{effects_length}
use Rattle.procedures.proofs.Rows.{with_memory, writes_leave, rising_from}
use Rattle.ports.specs.declared.port.Connection.{Connection}
use Rattle.ports.specs.declared.port.Port.{Port}
use Rattle.ports.specs.Port.{no_marks}
use Rattle.ports.specs.Refusals.{if_disconnected}
use Rattle.ports.specs.Terminals.{none_configured}
use Rattle.ports.specs.Sendings.{zeros, sets_up, attaches, attaches_by}
use Rattle.ports.specs.Calls.{attach_call, attach_answer, attached_after}
use Rattle.ports.specs.Asked.{attach}
use Rattle.counts.specs.Tally.{Tally, count_all, tells, lost_by, attached, accepted}
use Rattle.counts.proofs.Invariant.{Own, Sound, Inv, Went, Broke}
use Rattle.ports.proofs.Refused.{passes}
use Rattle.counts.proofs.Starts.{starts_leave, start_live, prepared}

-- a restart that waits after the acts of a poll leaves the device as new
acts_new : (cs : List Choice) (d : Device) → 256 ≤ length d.memory → (d.waiting ≡ true → New d) → (effects Poll cs d).waiting ≡ true → New (effects Poll cs d)
acts_new [] d big f w = f w
acts_new (ch ∷ cs) d big f w = effect_new Poll ch (effects Poll cs d) (rw (effects_length Poll cs d) big) refl (λ v. acts_new cs d big f v) w

-- the device that was set up
made_ready : List ℕ → Device → Device
made_ready ts d = with_memory (put_row terminal_places ts (put_row (rising unit_half 64) zeros d.memory)) (acknowledged d)

sets_up_leave : (ts : List ℕ) (t u : State) (x : Unit {0}) → Leaves (sets_up ts) t x u
    → (ch : Choice) × (u.device ≡ started ch (with_memory (prepared cu_ready 1 (made_ready ts t.device).memory) (made_ready ts t.device)))
unfolding made_ready
sets_up_leave ts t u x (a, m₁, acknowledging, (b, m₂, clearing, (c, m₃, addressing, rest))) =
    let one = acknowledging.1 in
    let two = writes_leave (rising unit_half 64) zeros m₁ m₂ b clearing in
    let three = writes_leave terminal_places ts m₂ m₃ c addressing in
    let ready : m₃.device ≡ with_memory (put_row terminal_places ts (put_row (rising unit_half 64) zeros t.device.memory)) (acknowledged t.device) =
    three ∙ ap (λ (d : Device). with_memory (put_row terminal_places ts d.memory) d) (two ∙ ap (λ (d : Device). with_memory (put_row (rising unit_half 64) zeros d.memory) d) one) in
    let start = starts_leave cu_ready 1 m₃ u x rest in
    (start.0, start.1 ∙ ap (λ (d : Device). started start.0 (with_memory (prepared cu_ready 1 d.memory) d)) ready)

module _ (n : Tally) (ts : List ℕ) (d : Device) (big : 256 ≤ length d.memory) (new : New d) (even : n.accepted_ever ≡ n.collected_ever + n.lost_ever) where
  low : (j : ℕ) → j < unit_half → is_in terminal_places j ≡ false → at (made_ready ts d) j ≡ at d j
  unfolding made_ready
  low j h f = row_other terminal_places ts (put_row (rising unit_half 64) zeros d.memory) j f ∙ row_other (rising unit_half 64) zeros d.memory j (rising_from unit_half 64 j h)

  sized : 256 ≤ length (made_ready ts d).memory
  unfolding made_ready
  sized = rw (row_length terminal_places ts (put_row (rising unit_half 64) zeros d.memory), row_length (rising unit_half 64) zeros d.memory) big

  own_attach : (ch : Choice) → Own (count_all (attached ∷ accepted cu_ready ∷ []) n) (record { cusyn = 1; marks = no_marks; online = 0; request = Some cu_ready })
      (started ch (with_memory (prepared cu_ready 1 (made_ready ts d).memory) (made_ready ts d)))
  unfolding made_ready
  own_attach ch =
      let b = made_ready ts d in
      let at_a : at b dpastat ≡ 0 = low dpastat (omega arith) refl ∙ new.dpastat_zero in
      let at_e : at b exfak ≡ 0 = low exfak (omega arith) refl ∙ new.exfak_zero in
      let s = start_live ch cu_ready 1 0 0 0 b sized refl new.not_working (λ h. let z : ◌≡◌ {A = ℕ} 1 0 = h ∙ new.none_seen in omega arith)
      new.none_taken (rw at_a new.no_events) (rw at_e new.no_expedited) in
      record {
        live = s.0;
        bit = omega arith;
        good_event = rw (s.1 ∙ at_a) (omega arith);
        good_expedited = rw (s.2 ∙ at_e) (omega arith);
        marked_asynchronous = λ h. cc;
        marked_expedited = λ h. cc;
        marked_ended = λ h. cc;
        balanced = omega arith;
        stands = refl;
        holds = λ h. refl;
      }

-- what a Poll said: a restart waits, or the attach ends in a Reset
waits : (w q : Bool) → cond w RestartWaits (cond q NoStatus Status) ≡ RestartWaits → w ≡ true
waits true q h = refl
waits false true h = cc
waits false false h = cc

module _ (n : Tally) (ts : List ℕ) (even : n.accepted_ever ≡ n.collected_ever + n.lost_ever) where
  attach_by : (p : PollAnswer) (d : Device) (m u : State) → m.device ≡ d → says d ≡ p → 256 ≤ length d.memory → (d.waiting ≡ true → New d) → Leaves (attaches_by ts p) m true u
      → Own (count_all (attached ∷ accepted cu_ready ∷ []) n) (record { cusyn = 1; marks = no_marks; online = 0; request = Some cu_ready }) u.device
  attach_by RestartWaits d m u e says_it big new (x, v, l, (a, f)) =
      let w = waits d.waiting (eqb (at d dpastat) 0 && (eqb (at d dpsstat) 0 && eqb (at d exfak) 0)) says_it in
      let s = sets_up_leave ts m v x l in
      let ch = s.0 in
      let all : u.device ≡ started ch (with_memory (prepared cu_ready 1 (made_ready ts d).memory) (made_ready ts d)) =
      ap (λ (z : State). z.device) f ∙ s.1 ∙ ap (λ (z : Device). started ch (with_memory (prepared cu_ready 1 (made_ready ts z).memory) (made_ready ts z))) e in
      rw all (own_attach n ts d big (new w) even ch)
  attach_by Status d m u e says_it big new (x, v, l, (a, f)) = absurd (clash (sym a))
  attach_by NoStatus d m u e says_it big new (x, v, l, (a, f)) = absurd (clash (sym a))

not_connected : (b : Bool) (s : Option Connection) → option_or (then_some b NotConfigured) (if_disconnected s) ≡ None → if_disconnected s ≡ None
not_connected b s h = (passes b NotConfigured (if_disconnected s) h).1

attach_goes : (n : Tally) (ts : List ℕ) (s : Option Connection) (t u : State) → Lawful t → Sound n s t.device → if_disconnected s ≡ None → (x : Bool) → Leaves (attaches ts) t x u
    → let k : Port = record { terminals = ts; connection = s } in Inv (count_all (tells attach (attach_answer (Ok x))) n) (attached_after k (attach_answer (Ok x))) u.device
attach_goes n ts (Some c) t u law i e x l = cc
attach_goes n ts None t u law i e false l = i
attach_goes n ts None t u law i e true (y, m, polling, rest) =
    let cs = polling.1.0 in
    let d = effects Poll cs t.device in
    let is_d = polling.1.1 in
    let says_it : said y ≡ says d = ap said polling.2 ∙ ap says is_d in
    attach_by n ts i.0 (says d) d m u is_d refl (rw (effects_length Poll cs t.device) law.large) (acts_new cs t.device law.large law.new) (rw says_it at rest)

pub attach_went : (n : Tally) (k : Port) (t : State) → Lawful t → Inv n k t.device → Went (attach_call k) (tells attach) n k t
attach_went n k t law i e x u l = attach_goes n k.terminals k.connection t u law i (not_connected (none_configured k.terminals) k.connection e) x l

-- broken off, the port is disconnected as it was

attach_breaks : (n : Tally) (s : Option Connection) (d e : Device) → if_disconnected s ≡ None → Sound n s d → Sound (count_all (lost_by None) n) s e
attach_breaks n (Some c) d e h i = cc
attach_breaks n None d e h i = (i.0, refl)

pub attach_broke : (n : Tally) (k : Port) (t : State) → Inv n k t.device → Broke (attach_call k) (tells attach) n k t
attach_broke n k t i e s u = attach_breaks n k.connection t.device u.device (not_connected (none_configured k.terminals) k.connection e) i
