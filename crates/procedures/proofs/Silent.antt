-- How long a silence is when it breaks a procedure off.
use Rattle.std.proofs.Common.{◌≡◌, ℕ, zero, suc, ◌+◌, ◌≤◌, min, List, Ok, Err, Result, refl, arith}
use Rattle.line.specs.declared.command.Command.{Command}
use Rattle.line.specs.declared.command.Reply.{Reply}
use Rattle.line.specs.State.{State, Choice, Passage, answered, unheard, unanswered}
use Rattle.line.specs.Rules.{after, answer, effect, fate}
use Rattle.procedures.specs.declared.silence.Silence.{Silence}
use Rattle.procedures.specs.Procedure.{gives, sends, once, thens}
use Rattle.procedures.specs.Performed.{Performed, next, later, or_again, tried, going_on, performed}
use Rattle.procedures.specs.Laws.{SilenceIsThirtyTwoInARow}

-- the row after sendings that were all unanswered
module _ (c : Command) (e : Silence) where
  Counts : ℕ → ℕ → Performed Reply → Type 0
  Counts row n r = r.result ≡ Err e → min 255 (row + n) ≤ r.state.row

  sending : (m : State) (ch : Choice) (cs : List Choice) (n : ℕ) (again : State → Performed Reply) (p : Passage) → fate c ch m.device ≡ p
      → ((u : State) → Counts u.row n (again u)) → Counts m.row (suc n) (or_again (answer c ch m) (after c ch m) cs (again (after c ch m)))
  unfolding Counts
  sending m ch cs n again answered h f = rw h (λ o. let z : ◌≡◌ {A = ℕ} 0 1 = cc in absurd (omega arith))
  sending m ch cs n again unheard h f = rw h (λ o. let k = f (record { device = m.device; row = min 255 (m.row + 1) }) o in omega arith)
  sending m ch cs n again unanswered h f = rw h (λ o. let k = f (record { device = effect c ch m.device; row = min 255 (m.row + 1) }) o in omega arith)

  all_unanswered : (n : ℕ) (cs : List Choice) (m : State) → Counts m.row n (tried n c cs m)
  unfolding tried Counts
  all_unanswered zero cs m = λ o. omega arith
  all_unanswered (suc n) cs m = sending m (next cs) (later cs) n (λ u. tried n c (later cs) u) (fate c (next cs) m.device) refl (λ u. all_unanswered n (later cs) u)

pub silence_is_thirty_two_in_a_row : SilenceIsThirtyTwoInARow
unfolding performed Counts
silence_is_thirty_two_in_a_row A (gives a) cs t e h = let z : ◌≡◌ {A = ℕ} 0 1 = cc in absurd (omega arith)
silence_is_thirty_two_in_a_row A (sends c) cs t e h = let k = all_unanswered c e 32 cs t h in omega arith
silence_is_thirty_two_in_a_row A (once c) cs t e h = let z : ◌≡◌ {A = ℕ} 0 1 = cc in absurd (omega arith)
silence_is_thirty_two_in_a_row B (thens {A} p f) cs t e h =
    let r = performed p cs t in
    by_first r.result refl h (λ g. silence_is_thirty_two_in_a_row A p cs t e g) (λ a g. silence_is_thirty_two_in_a_row B (f a) r.left r.state e g)
  where
    by_first : (o : Result A Silence) → (performed p cs t).result ≡ o → (going_on o (performed p cs t).state (performed p cs t).left (λ a. performed (f a))).result ≡ Err e
        → ((performed p cs t).result ≡ Err e → 32 ≤ (performed p cs t).state.row)
        → ((a : A) → (performed (f a) (performed p cs t).left (performed p cs t).state).result ≡ Err e → 32 ≤ (performed (f a) (performed p cs t).left (performed p cs t).state).state.row)
        → 32 ≤ (going_on o (performed p cs t).state (performed p cs t).left (λ a. performed (f a))).state.row
    by_first (Ok a) g h first rest = rest a h
    by_first (Err s) g h first rest = let same : (performed p cs t).result ≡ Err e = cc in first same
