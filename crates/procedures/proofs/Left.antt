-- What a procedure that went through leaves, read off the function of the choices.
use Rattle.std.proofs.Common.{◌≡◌, ℕ, zero, suc, ◌+◌, min, Bool, true, false, List, [], ◌∷◌, length, Ok, Err, Result, sym, refl, ap, ◌∙◌, arith}
use borrow.Author.Tests.{clash}
use Rattle.line.specs.declared.command.Command.{Command}
use Rattle.line.specs.declared.command.Command.TheVariants.{Poll, Read, Write, Start, Acknowledge, TerminalId, Reset}
use Rattle.line.specs.declared.command.Reply.{Reply}
use Rattle.line.specs.State.{Device, State, Choice, Passage, answered, unheard, unanswered}
use Rattle.line.specs.Rules.{after, answer, effect, hears, reply, fate}
use Rattle.line.specs.Laws.{repeatable}
use Rattle.line.proofs.Implied.{effect_length, repeated_command_does_nothing_more}
use Rattle.procedures.specs.declared.silence.Silence.{Silence}
use Rattle.procedures.specs.Procedure.{Procedure, gives, sends, once, thens}
use Rattle.procedures.specs.Performed.{Performed, next, later, or_again, tried, going_on, performed}
use Rattle.procedures.specs.Leaves.{effects, Made, Answers, Leaves}

pub effects_length : (c : Command) (cs : List Choice) (d : Device) → length (effects c cs d).memory ≡ length d.memory
effects_length c [] d = refl
effects_length c (ch ∷ cs) d = effect_length c ch (effects c cs d) ∙ effects_length c cs d

-- of a command that does nothing more when sent again, the first that is heard counts
once_only : (c : Command) (ch : Choice) (cs : List Choice) (d : Device) → repeatable c ≡ true → (y : Choice) × (effects c (ch ∷ cs) d ≡ effect c y d)
once_only c ch [] d e = (ch, refl)
once_only c ch (x ∷ cs) d e =
    let i = once_only c x cs d e in
    (i.0, ap (effect c ch) i.1 ∙ repeated_command_does_nothing_more c i.0 ch d e)

made : (c : Command) (ch : Choice) (cs : List Choice) (d : Device) → hears c (effects c cs d) ≡ true → (hears c d ≡ true) × Made c d (effects c (ch ∷ cs) d)
made Poll ch cs d h = (refl, (ch ∷ cs, refl))
made (Read a) ch cs d h = (rw (effects_length (Read a) cs d) at h, (once_only (Read a) ch cs d refl).1)
made (Write a v) ch cs d h = (rw (effects_length (Write a v) cs d) at h, (once_only (Write a v) ch cs d refl).1)
made Start ch cs d h = (refl, once_only Start ch cs d refl)
made Acknowledge ch cs d h = (refl, (once_only Acknowledge ch cs d refl).1)
made TerminalId ch cs d h = (refl, (once_only TerminalId ch cs d refl).1)
made Reset ch cs d h = (refl, (ch ∷ cs, refl))

-- some sendings of a command went by, heard or not
record Passed (c : Command) (t m : State) : Type 0 where
  heard : List Choice
  device : m.device ≡ effects c heard t.device

one_more : (c : Command) (ch : Choice) (t m : State) → Passed c t m → Passed c t (record { device = effect c ch m.device; row = min 255 (m.row + 1) })
one_more c ch t m p = record { heard = ch ∷ p.heard; device = ap (effect c ch) p.device }

not_one : (c : Command) (t m : State) → Passed c t m → Passed c t (record { device = m.device; row = min 255 (m.row + 1) })
not_one c t m p = record { heard = p.heard; device = p.device }

-- what one sending comes to, by whether it is heard and what became of it
module _ (c : Command) (t : State) (y : Reply) where
  Ends : Performed Reply → Type 0
  Ends r = r.result ≡ Ok y → Answers c t y r.state

  sending : (m : State) (ch : Choice) (cs : List Choice) (again : State → Performed Reply) (b : Bool) (p : Passage) → hears c m.device ≡ b → fate c ch m.device ≡ p
      → (b ≡ false → p ≡ unheard) → ((u : State) → Passed c t u → Ends (again u)) → Passed c t m → Ends (or_again (answer c ch m) (after c ch m) cs (again (after c ch m)))
  unfolding Ends
  sending m ch cs again true answered h e n f q = rw e (λ o.
      let i = made c ch q.heard t.device (rw q.device at h) in
      let same : reply c (effect c ch m.device) ≡ y = cc in
      (i.0, rw q.device i.1, sym same))
  sending m ch cs again false answered h e n f q = let z : ◌≡◌ {A = Passage} answered unheard = n refl in let w : ◌≡◌ {A = ℕ} 0 1 = cc in absurd (omega arith)
  sending m ch cs again b unheard h e n f q = rw e (f _ (not_one c t m q))
  sending m ch cs again b unanswered h e n f q = rw e (f _ (one_more c ch t m q))

  unheard_if : (d : Device) (ch : Choice) (b : Bool) → hears c d ≡ b → b ≡ false → fate c ch d ≡ unheard
  unheard_if d ch true h e = absurd (clash (sym e))
  unheard_if d ch false h e = rw h refl

  tries_end : (n : ℕ) (cs : List Choice) (m : State) → Passed c t m → Ends (tried n c cs m)
  unfolding tried Ends
  tries_end zero cs m q = λ o. let z : ◌≡◌ {A = ℕ} 0 1 = cc in absurd (omega arith)
  tries_end (suc n) cs m q =
      sending m (next cs) (later cs) (λ u. tried n c (later cs) u) (hears c m.device) (fate c (next cs) m.device) refl refl
      (unheard_if m.device (next cs) (hears c m.device) refl) (λ u p. tries_end n (later cs) u p) q

-- the theorem
pub leaves : {A : Type 0} (p : Procedure A) (cs : List Choice) (t : State) (a : A) → (performed p cs t).result ≡ Ok a → Leaves p t a (performed p cs t).state
unfolding performed Ends
leaves (gives a) cs t b e = (cc, refl)
leaves (sends c) cs t y e = tries_end c t y 32 cs t (record { heard = []; device = refl }) e
leaves (once c) cs t b e = (_, (next cs, refl, refl))
leaves (thens {A} p f) cs t b e =
    let r = performed p cs t in
    by_first r.result refl e (λ a g. leaves p cs t a g) (λ a h. leaves (f a) r.left r.state b h)
  where
    by_first : (o : Result A Silence) → (performed p cs t).result ≡ o → (going_on o (performed p cs t).state (performed p cs t).left (λ a. performed (f a))).result ≡ Ok b
        → ((a : A) → (performed p cs t).result ≡ Ok a → Leaves p t a (performed p cs t).state)
        → ((a : A) → (performed (f a) (performed p cs t).left (performed p cs t).state).result ≡ Ok b → Leaves (f a) (performed p cs t).state b (performed (f a) (performed p cs t).left (performed p cs t).state).state)
        → Leaves (thens p f) t b (going_on o (performed p cs t).state (performed p cs t).left (λ a. performed (f a))).state
    by_first (Ok a) g h first rest = (a, (performed p cs t).state, first a g, rest a h)
    by_first (Err s) g h first rest = let z : ◌≡◌ {A = ℕ} 0 1 = cc in absurd (omega arith)
