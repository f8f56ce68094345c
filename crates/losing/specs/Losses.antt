-- A losing line keeps the rules over any line that does, and leaves no choice over a line that has none.
use Rattle.std.specs.Prelude.{◌≡◌, ℕ, ◌+◌, ◌≤◌, min, Bool, true, false, cond, List, [], None, Option}
use Rattle.std.proofs.Math.Path.{refl, ap}
use Rattle.std.proofs.Common.{sym, ◌∙◌}
use Rattle.line.specs.declared.command.Command.{Command}
use Rattle.line.specs.declared.command.Reply.{Reply}
use Rattle.line.specs.State.{Device, State, Passage, answered, unheard, unanswered, Choice}
use Rattle.line.specs.declared.command.Command.TheVariants.{Poll, Read, Write, Start, Acknowledge, TerminalId, Reset}
use Rattle.line.specs.Rules.{act, started, Permitted, Lawful, fate, hears, effect, reply, device_after, row_after, answer_by}
use Rattle.losing.specs.declared.mark.Mark.{Mark}
use Rattle.losing.specs.declared.mark.Mark.TheVariants.{Passes, Unheard, Unanswered}
use Rattle.losing.specs.Loss.{Lost, Loses, row_by, told_over, mark_at, OwnOver, below_after, answer_through, next_over, answers_over}

pub lawful_over : (t : State) (n : ℕ) → n ≤ 255 → Lawful t → Lawful (told_over t n)
lawful_over t n h l = record {
  large = l.large;
  small = l.small;
  eight = l.eight;
  taken_fits = l.taken_fits;
  events_fit = l.events_fit;
  expedited_fit = l.expedited_fit;
  row_held = h;
  new = l.new;
}

-- the same choice, with the answer lost
muted_by : Passage → Passage
muted_by answered = unanswered
muted_by unheard = unheard
muted_by unanswered = unanswered

with_passage : Passage → Choice → Choice
with_passage p ch = record { passage = p; restarts = ch.restarts; to_dpastat = ch.to_dpastat; to_dpsstat = ch.to_dpsstat; to_exfak = ch.to_exfak; bytes = ch.bytes }

-- what comes back tells whether the row begins anew
row_is : (p : Passage) (y : Reply) (n : ℕ) → row_by (answer_by p y) n ≡ row_after p n
row_is answered y n = refl
row_is unheard y n = refl
row_is unanswered y n = refl

state_eq : (d e : Device) (m k : ℕ) → d ≡ e → m ≡ k → ◌≡◌ {A = State} (record { device = d; row = m }) (record { device = e; row = k })
state_eq d e m k h w = rw (h, w) refl

-- whatever the command's fate would have been, no answer comes

mute_fate : (b : Bool) (p : Passage) → cond b (muted_by p) unheard ≡ muted_by (cond b p unheard)
unfolding muted_by
mute_fate true p = refl
mute_fate false p = refl

same_act : (c : Command) (p : Passage) (ch : Choice) (d : Device) → effect c (with_passage p ch) d ≡ effect c ch d
unfolding with_passage act started
same_act Poll p ch d = refl
same_act (Read a) p ch d = refl
same_act (Write a v) p ch d = refl
same_act Start p ch d = refl
same_act Acknowledge p ch d = refl
same_act TerminalId p ch d = refl
same_act Reset p ch d = refl

muted_device : (f : Passage) (c : Command) (p : Passage) (ch : Choice) (d : Device) → device_after (muted_by f) c (with_passage p ch) d ≡ device_after f c ch d
unfolding muted_by
muted_device answered c p ch d = same_act c p ch d
muted_device unheard c p ch d = refl
muted_device unanswered c p ch d = same_act c p ch d

muted_row : (f : Passage) (n : ℕ) → row_after (muted_by f) n ≡ min 255 (n + 1)
unfolding muted_by
muted_row answered n = refl
muted_row unheard n = refl
muted_row unanswered n = refl

muted_answer : (f : Passage) (y : Reply) → answer_by (muted_by f) y ≡ None
unfolding muted_by
muted_answer answered y = refl
muted_answer unheard y = refl
muted_answer unanswered y = refl

either_unheard : (b : Bool) → cond b unheard unheard ≡ unheard
either_unheard true = refl
either_unheard false = refl

module _ (t : State) (n : ℕ) (c : Command) where
  passes : (u : State) (r : Option Reply) → Permitted t c r u → Permitted (told_over t n) c r (told_over u (row_by r n))
  passes u r p =
      let ch = p.0 in
      let f = fate c ch t.device in
      let d = ap (λ (s : State). s.device) p.1 in
      let w = ap (λ (q : Option Reply). row_by q n) p.2 ∙ row_is f (reply c (effect c ch t.device)) n in
      (ch, state_eq u.device (device_after f c ch t.device) (row_by r n) (row_after f n) d w, p.2)

  swallowed : Choice → Permitted (told_over t n) c None (told_over t (min 255 (n + 1)))
  unfolding with_passage
  swallowed any =
      let h = hears c t.device in (
        with_passage unheard any,
        state_eq t.device (device_after (cond h unheard unheard) c (with_passage unheard any) t.device) _ (row_after (cond h unheard unheard) n) (rw (either_unheard h) refl) (rw (either_unheard h) refl),
        rw (either_unheard h) refl,
      )

  muted : (u : State) (q : Option Reply) → Permitted t c q u → Permitted (told_over t n) c None (told_over u (min 255 (n + 1)))
  unfolding with_passage
  muted u q p =
      let ch = p.0 in
      let h = hears c t.device in
      let f = fate c ch t.device in
      let m = with_passage (muted_by ch.passage) ch in
      let e = mute_fate h ch.passage in
      let d = ap (λ (s : State). s.device) p.1 in (
        m,
        state_eq u.device (device_after (fate c m t.device) c m t.device) _ (row_after (fate c m t.device) n) (d ∙ rw e (sym (muted_device f c (muted_by ch.passage) ch t.device))) (rw e (sym (muted_row f n))),
        rw e (sym (muted_answer f _)),
      )

silent : Choice
silent = record { passage = unheard; restarts = false; to_dpastat = 0; to_dpsstat = 0; to_exfak = 0; bytes = [] }

module _ {S : Type 0} (step : S → Command → Option Reply → S → Type 0) (state : S → State) (keeps : (s t : S) (c : Command) (r : Option Reply) → step s c r t → Permitted (state s) c r (state t)) where
  lost_permitted : (m : Mark) (n : ℕ) (s t : S) (c : Command) (r : Option Reply) → Lost (λ s r t. step s c r t) m s r t → Permitted (told_over (state s) n) c r (told_over (state t) (row_by r n))
  lost_permitted Passes n s t c r w = passes (state s) n c (state t) r (keeps s t c r w)
  lost_permitted Unheard n s t c r (e, q) = rw (e, q) (swallowed (state s) n c silent)
  lost_permitted Unanswered n s t c r (q, w, e) = rw e (muted (state s) n c (state t) q (keeps s t c q w))

  pub keeps_over : (marks : List Mark) (next row : ℕ) (s : S) (c : Command) (r : Option Reply) (t : S) (marks' : List Mark) (next' row' : ℕ)
      → Loses (λ s r t. step s c r t) marks next row s r t marks' next' row' → Permitted (told_over (state s) row) c r (told_over (state t) row')
  keeps_over marks next row s c r t marks' next' row' l = rw l.row_counts (lost_permitted (mark_at marks next) row s t c r l.below)

module _ {S O : Type 0} (step : S → Command → Option Reply → S → Type 0) (own : S → O) (next_of : Command → O → O) (answers : Command → O → Option Reply)
    (determined : (s t : S) (c : Command) (r : Option Reply) → step s c r t → (own t ≡ next_of c (own s)) × (r ≡ answers c (own s))) where
  lost_determined : (m : Mark) (s t : S) (c : Command) (r : Option Reply) → Lost (λ s r t. step s c r t) m s r t → (own t ≡ below_after m next_of c (own s)) × (r ≡ answer_through m answers c (own s))
  lost_determined Passes s t c r w = determined s t c r w
  lost_determined Unheard s t c r (e, q) = (ap own e, q)
  lost_determined Unanswered s t c r (q, w, e) = ((determined s t c q w).0, e)

  abbrev over : S → List Mark → ℕ → ℕ → OwnOver O
  over s marks next row = record { below = own s; marks = marks; next = next; row = row }

  pub determined_over : (marks : List Mark) (next row : ℕ) (s : S) (c : Command) (r : Option Reply) (t : S) (marks' : List Mark) (next' row' : ℕ)
      → Loses (λ s r t. step s c r t) marks next row s r t marks' next' row'
      → (over t marks' next' row' ≡ next_over next_of answers c (over s marks next row)) × (r ≡ answers_over answers c (over s marks next row))
  determined_over marks next row s c r t marks' next' row' l =
      let d = lost_determined (mark_at marks next) s t c r l.below in
      (rw (d.0, l.marks_stay, l.next_turns, l.row_counts, d.1) refl, d.1)
