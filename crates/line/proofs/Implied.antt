-- What the rules imply, by cases on the command.
use Rattle.std.proofs.Common.{◌≡◌, ℕ, ◌+◌, ◌%◌, ◌^◌, ◌<◌, ◌≤◌, min, Bool, true, false, cond, ◌&&◌, eqb, ltb, List, length, get_or, set, sym, refl, ap, ◌∙◌, arith, length-set, get_or-set_other, get_or-set_same, set-set, eq-eqb, eqb-true}
use borrow.Author.Tests.{clash, eqb-false}
use Rattle.std.proofs.lemmas.Bool.{and_parts}
use Rattle.std.proofs.Math.Bool.{or-false}
use Rattle.tca.specs.Fields.{dpastat, dpsstat, exfak, cusyn}
use Rattle.line.specs.declared.command.Command.{Command}
use Rattle.line.specs.declared.command.Command.TheVariants.{Poll, Read, Write, Start, Acknowledge, TerminalId, Reset}
use Rattle.line.specs.State.{Device, State, Passage, answered, unheard, unanswered, Choice, at}
use Rattle.line.specs.Rules.{Lawful, New, effect, hears, fate, device_after, row_after, act, ran, restarted, started, start_by, written, may_write, is_toggle, byte_after, posts_event, posts_end, posts_expedited}
use Rattle.line.specs.Laws.{RulesKeepWhatAlwaysHolds, SizeIsFixed, RepeatedCommandDoesNothingMore}
use Rattle.line.proofs.Memory.{remake_length, remake_at}

-- the size

started_length : (w s k : Bool) (ch : Choice) (d : Device) → length (start_by w s k ch d).memory ≡ length d.memory
started_length true s k ch d = refl
started_length false true k ch d = refl
started_length false false true ch d = remake_length _ d.memory
started_length false false false ch d = refl

act_length : (r : Bool) (ch : Choice) (d : Device) → length (cond r (restarted ch d) (ran ch d)).memory ≡ length d.memory
act_length true ch d = remake_length _ d.memory
act_length false ch d = remake_length _ d.memory

pub effect_length : (c : Command) (ch : Choice) (d : Device) → length (effect c ch d).memory ≡ length d.memory
unfolding act started
effect_length Poll ch d = act_length ch.restarts ch d
effect_length (Read a) ch d = refl
effect_length (Write a v) ch d = length-set d.memory a v
effect_length Start ch d = started_length d.waiting (eqb (at d cusyn) d.seen) d.working ch d
effect_length Acknowledge ch d = refl
effect_length TerminalId ch d = refl
effect_length Reset ch d = remake_length _ d.memory

after_length : (p : Passage) (c : Command) (ch : Choice) (d : Device) → length (device_after p c ch d).memory ≡ length d.memory
after_length answered c ch d = effect_length c ch d
after_length unheard c ch d = refl
after_length unanswered c ch d = effect_length c ch d

pub size_is_fixed : SizeIsFixed
size_is_fixed t u c r p = ap (λ (s : State). length s.device.memory) p.1 ∙ after_length (fate c p.0 t.device) c p.0 t.device

-- what always holds

restarted_new : (ch : Choice) (d : Device) → 256 ≤ length d.memory → New (restarted ch d)
restarted_new ch d big =
    let f : ℕ → ℕ → ℕ = λ a x. cond (is_toggle a) 0 (get_or ch.bytes a 0) in
    record {
      not_working = refl;
      none_seen = refl;
      none_taken = refl;
      no_events = refl;
      no_expedited = refl;
      dpastat_zero = remake_at f d.memory dpastat (omega arith);
      dpsstat_zero = remake_at f d.memory dpsstat (omega arith);
      exfak_zero = remake_at f d.memory exfak (omega arith);
    }

ran_new : (ch : Choice) (d : Device) → 256 ≤ length d.memory → d.waiting ≡ true → New d → New (ran ch d)
ran_new ch d big w n =
    let f = byte_after (posts_event ch d) (posts_end ch d) (posts_expedited ch d) ch d in
    record {
      not_working = rw w n.not_working;
      none_seen = n.none_seen;
      none_taken = n.none_taken;
      no_events = rw w n.no_events;
      no_expedited = rw w n.no_expedited;
      dpastat_zero = remake_at f d.memory dpastat (omega arith) ∙ rw w n.dpastat_zero;
      dpsstat_zero = remake_at f d.memory dpsstat (omega arith) ∙ rw w n.dpsstat_zero;
      exfak_zero = remake_at f d.memory exfak (omega arith) ∙ rw w n.exfak_zero;
    }

-- a byte that is zero stays so under a write elsewhere, or of zero
zero_stays : (b : Bool) (m : List ℕ) (a v t : ℕ) → eqb t a ≡ b → t < length m → (a ≡ t → v ≡ 0) → get_or m t 0 ≡ 0 → get_or (set m a v) t 0 ≡ 0
zero_stays true m a v t e h f z =
    let s : t ≡ a = eqb-true t a e in
    rw (sym s) (get_or-set_same m t v 0 h ∙ f (sym s))
zero_stays false m a v t e h f z = get_or-set_other m a t v 0 (eqb-false t a e) ∙ z

-- what is heard at a toggle is a zero
module _ (n v : ℕ) where
  only_zero_0 : may_write n dpastat v ≡ true → v ≡ 0
  only_zero_0 e = eqb-true v 0 (sym (or-false (eqb v 0)) ∙ (and_parts (ltb dpastat n) _ e).1)

  only_zero_1 : may_write n dpsstat v ≡ true → v ≡ 0
  only_zero_1 e = eqb-true v 0 (sym (or-false (eqb v 0)) ∙ (and_parts (ltb dpsstat n) _ e).1)

  only_zero_26 : may_write n exfak v ≡ true → v ≡ 0
  only_zero_26 e = eqb-true v 0 (sym (or-false (eqb v 0)) ∙ (and_parts (ltb exfak n) _ e).1)

written_new : (a v : ℕ) (d : Device) → 256 ≤ length d.memory → may_write (length d.memory) a v ≡ true → New d → New (written a v d)
written_new a v d big m n =
    let zero : (t : ℕ) → t < 256 → (may_write (length d.memory) t v ≡ true → v ≡ 0) → at d t ≡ 0 → get_or (set d.memory a v) t 0 ≡ 0 =
    λ t h f z. zero_stays (eqb t a) d.memory a v t refl (omega arith) (λ e. f (rw e at m)) z in
    record {
      not_working = n.not_working;
      none_seen = n.none_seen;
      none_taken = n.none_taken;
      no_events = n.no_events;
      no_expedited = n.no_expedited;
      dpastat_zero = zero dpastat (omega arith) (only_zero_0 (length d.memory) v) n.dpastat_zero;
      dpsstat_zero = zero dpsstat (omega arith) (only_zero_1 (length d.memory) v) n.dpsstat_zero;
      exfak_zero = zero exfak (omega arith) (only_zero_26 (length d.memory) v) n.exfak_zero;
    }

act_new : (r : Bool) (ch : Choice) (d : Device) → 256 ≤ length d.memory → (d.waiting ≡ true → New d) → (cond r (restarted ch d) (ran ch d)).waiting ≡ true → New (cond r (restarted ch d) (ran ch d))
act_new true ch d big n w = restarted_new ch d big
act_new false ch d big n w = ran_new ch d big w (n w)

started_new : (w s k : Bool) (ch : Choice) (d : Device) → 256 ≤ length d.memory → d.waiting ≡ w → (d.waiting ≡ true → New d) → (start_by w s k ch d).waiting ≡ true → New (start_by w s k ch d)
started_new true s k ch d big e n w = n w
started_new false true k ch d big e n w = n w
started_new false false true ch d big e n w = restarted_new ch d big
started_new false false false ch d big e n w = absurd (clash (sym e ∙ w))

pub effect_new : (c : Command) (ch : Choice) (d : Device) → 256 ≤ length d.memory → hears c d ≡ true → (d.waiting ≡ true → New d) → (effect c ch d).waiting ≡ true → New (effect c ch d)
unfolding act started
effect_new Poll ch d big h n w = act_new ch.restarts ch d big n w
effect_new (Read a) ch d big h n w = n w
effect_new (Write a v) ch d big h n w = written_new a v d big h (n w)
effect_new Start ch d big h n w = started_new d.waiting (eqb (at d cusyn) d.seen) d.working ch d big refl n w
effect_new Acknowledge ch d big h n w = absurd (clash w)
effect_new TerminalId ch d big h n w = n w
effect_new Reset ch d big h n w = restarted_new ch d big

-- the counts, the request taken last and the row keep their bounds

pub record Bounded (d : Device) : Type 0 where
  pub eight : length d.last ≡ 8
  pub taken_fits : d.taken < 2 ^ 32
  pub events_fit : d.events < 2 ^ 32
  pub expedited_fit : d.expedited < 2 ^ 32

counted_fits : (b : Bool) (n : ℕ) → n < 2 ^ 32 → cond b ((n + 1) % 2 ^ 32) n < 2 ^ 32
counted_fits true n h = omega arith
counted_fits false n h = h

restarted_bounded : (ch : Choice) (d : Device) → Bounded d → Bounded (restarted ch d)
restarted_bounded ch d b = record { eight = b.eight; taken_fits = omega arith; events_fit = omega arith; expedited_fit = omega arith }

act_bounded : (r : Bool) (ch : Choice) (d : Device) → Bounded d → Bounded (cond r (restarted ch d) (ran ch d))
act_bounded true ch d b = restarted_bounded ch d b
act_bounded false ch d b = record {
  eight = b.eight;
  taken_fits = b.taken_fits;
  events_fit = counted_fits (posts_event ch d && eqb ch.to_dpastat 1) d.events b.events_fit;
  expedited_fit = counted_fits (posts_expedited ch d && eqb ch.to_exfak 1) d.expedited b.expedited_fit;
}

started_bounded : (w s k : Bool) (ch : Choice) (d : Device) → Bounded d → Bounded (start_by w s k ch d)
started_bounded true s k ch d b = b
started_bounded false true k ch d b = b
started_bounded false false true ch d b = restarted_bounded ch d b
started_bounded false false false ch d b = record { eight = refl; taken_fits = omega arith; events_fit = b.events_fit; expedited_fit = b.expedited_fit }

effect_bounded : (c : Command) (ch : Choice) (d : Device) → Bounded d → Bounded (effect c ch d)
unfolding act started
effect_bounded Poll ch d b = act_bounded ch.restarts ch d b
effect_bounded (Read a) ch d b = b
effect_bounded (Write a v) ch d b = record { eight = b.eight; taken_fits = b.taken_fits; events_fit = b.events_fit; expedited_fit = b.expedited_fit }
effect_bounded Start ch d b = started_bounded d.waiting (eqb (at d cusyn) d.seen) d.working ch d b
effect_bounded Acknowledge ch d b = record { eight = b.eight; taken_fits = b.taken_fits; events_fit = b.events_fit; expedited_fit = b.expedited_fit }
effect_bounded TerminalId ch d b = b
effect_bounded Reset ch d b = restarted_bounded ch d b

effect_lawful : (c : Command) (ch : Choice) (t : State) (n : ℕ) → n ≤ 255 → hears c t.device ≡ true → Lawful t → Lawful (record { device = effect c ch t.device; row = n })
effect_lawful c ch t n held h l =
    let d = t.device in
    let same = effect_length c ch d in
    let big = l.large in
    let few = l.small in
    let b = effect_bounded c ch d (record { eight = l.eight; taken_fits = l.taken_fits; events_fit = l.events_fit; expedited_fit = l.expedited_fit }) in
    record {
      large = omega arith;
      small = omega arith;
      eight = b.eight;
      taken_fits = b.taken_fits;
      events_fit = b.events_fit;
      expedited_fit = b.expedited_fit;
      row_held = held;
      new = effect_new c ch d big h l.new;
    }

unheard_lawful : (t : State) → Lawful t → Lawful (record { device = t.device; row = min 255 (t.row + 1) })
unheard_lawful t l = record {
  large = l.large;
  small = l.small;
  eight = l.eight;
  taken_fits = l.taken_fits;
  events_fit = l.events_fit;
  expedited_fit = l.expedited_fit;
  row_held = omega arith;
  new = l.new;
}

after_lawful : (b : Bool) (p : Passage) (c : Command) (ch : Choice) (t : State) → hears c t.device ≡ b → Lawful t
    → Lawful (record { device = device_after (cond b p unheard) c ch t.device; row = row_after (cond b p unheard) t.row })
after_lawful false p c ch t h l = unheard_lawful t l
after_lawful true answered c ch t h l = effect_lawful c ch t 0 (omega arith) h l
after_lawful true unheard c ch t h l = unheard_lawful t l
after_lawful true unanswered c ch t h l = effect_lawful c ch t (min 255 (t.row + 1)) (omega arith) h l

pub rules_keep_what_always_holds : RulesKeepWhatAlwaysHolds
rules_keep_what_always_holds t u c r l p = rw p.1 (after_lawful (hears c t.device) p.0.passage c p.0 t refl l)

-- repeats

started_again : (w s k : Bool) (ch again : Choice) (d : Device) → d.waiting ≡ w → eqb (at d cusyn) d.seen ≡ s → started again (start_by w s k ch d) ≡ start_by w s k ch d
unfolding started
started_again true s k ch again d hw hs = rw hw refl
started_again false true k ch again d hw hs = rw (hw, hs) refl
started_again false false true ch again d hw hs = refl
started_again false false false ch again d hw hs = rw (hw, eq-eqb (at d cusyn) (at d cusyn) refl) refl

written_again : (a v : ℕ) (d : Device) → written a v (written a v d) ≡ written a v d
written_again a v d = rw (set-set d.memory a v v) refl

pub repeated_command_does_nothing_more : RepeatedCommandDoesNothingMore
unfolding started
repeated_command_does_nothing_more Poll ch again d e = absurd (clash e)
repeated_command_does_nothing_more (Read a) ch again d e = refl
repeated_command_does_nothing_more (Write a v) ch again d e = written_again a v d
repeated_command_does_nothing_more Start ch again d e = started_again d.waiting (eqb (at d cusyn) d.seen) d.working ch again d refl refl
repeated_command_does_nothing_more Acknowledge ch again d e = refl
repeated_command_does_nothing_more TerminalId ch again d e = refl
repeated_command_does_nothing_more Reset ch again d e = absurd (clash e)
