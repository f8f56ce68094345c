-- What a poll that went through saw.
use Rattle.std.proofs.Common.{◌≡◌, ℕ, ◌≤◌, Bool, true, false, cond, ◌&&◌, eqb, ltb, ◌⊎◌, sym, refl, ap, ◌∙◌, inl, inr, arith, ltb-false, eqb-true}
use Rattle.tca.specs.Fields.{dpastat, dpsstat, exfak}
use Rattle.line.specs.declared.command.Command.TheVariants.{Poll}
use Rattle.line.specs.declared.command.PollAnswer.{PollAnswer}
use Rattle.line.specs.declared.command.PollAnswer.TheVariants.{Reset as RestartWaits, Status, Clean as NoStatus}
use Rattle.line.specs.State.{Device, State, at}
use Rattle.line.specs.Rules.{says}
use Rattle.procedures.specs.Procedure.{Procedure, either}
use Rattle.procedures.specs.Leaves.{Made, Leaves}
use Rattle.procedures.proofs.Rows.{read_leaves}
use Rattle.ports.specs.declared.seen.Seen.{Seen}
use Rattle.ports.specs.declared.seen.Seen.TheVariants.{Restart, Clean, Bad, Toggles}
use Rattle.ports.specs.Sendings.{checks, looks, polls, resets}

-- by what it saw: the device after its acts, which nothing changed since
abbrev pub Saw : Seen → Device → Device → Type 0
Saw Restart d e = Unit {0}
Saw Clean d e = (d.waiting ≡ false) × (e ≡ d) × (at d dpastat ≡ 0) × (at d exfak ≡ 0)
Saw (Bad a) d e = Unit {0}
Saw (Toggles x s a) d e = (d.waiting ≡ false) × (e ≡ d) × (x ≡ at d exfak) × (s ≡ at d dpsstat) × (a ≡ at d dpastat) × (x ≤ 1) × (a ≤ 1)

resets_leave : {A : Type 0} (a b : A) (t u : State) → Leaves (resets a) t b u → b ≡ a
resets_leave a b t u (x, m, p, (e, f)) = e

-- a bad toggle ends it, another is at most 1
checks_leave : (a : ℕ) (f : ℕ → Procedure Seen) (t u : State) (x : Seen) → Leaves (checks a f) t x u
    → (x ≡ Bad a) ⊎ ((v : ℕ) × (m : State) × (v ≡ at t.device a) × (m.device ≡ t.device) × (v ≤ 1) × Leaves (f v) m x u)
checks_leave a f t u x (v, m, read, rest) = let r = read_leaves a t m v read in by_value (ltb 1 v) refl r.0 r.1 rest
  where
    by_value : (b : Bool) → ltb 1 v ≡ b → v ≡ at t.device a → m.device ≡ t.device → Leaves (either b (resets (Bad a)) (f v)) m x u
        → (x ≡ Bad a) ⊎ ((w : ℕ) × (n : State) × (w ≡ at t.device a) × (n.device ≡ t.device) × (w ≤ 1) × Leaves (f w) n x u)
    by_value true h e s l = inl (resets_leave (Bad a) x m u l)
    by_value false h e s l = inr (v, m, e, s, ltb-false 1 v h, l)

-- what a Poll says
not_waiting : (d : Device) (w a s e : Bool) (p : PollAnswer) → cond w RestartWaits (cond (a && (s && e)) NoStatus Status) ≡ p → (p ≡ RestartWaits → ⊥) → w ≡ false
not_waiting d true a s e p h f = absurd (f (sym h))
not_waiting d false a s e p h f = refl

clean_zero : (w a s e : Bool) → cond w RestartWaits (cond (a && (s && e)) NoStatus Status) ≡ NoStatus → (a ≡ true) × (e ≡ true)
clean_zero true a s e h = cc
clean_zero false true true true h = (refl, refl)
clean_zero false true true false h = cc
clean_zero false true false e h = cc
clean_zero false false s e h = cc

module _ (t u : State) (x : Seen) where
  awake_unless : (p : PollAnswer) → says t.device ≡ p → (p ≡ RestartWaits → ⊥) → t.device.waiting ≡ false
  awake_unless p h f = let d = t.device in not_waiting d d.waiting (eqb (at d dpastat) 0) (eqb (at d dpsstat) 0) (eqb (at d exfak) 0) p h f

  looks_leave : (p : PollAnswer) → says t.device ≡ p → Leaves (looks p) t x u → Saw x t.device u.device
  looks_leave RestartWaits h l = rw (resets_leave Restart x t u l) tt
  looks_leave NoStatus h (e, f) =
      let d = t.device in
      let z = clean_zero d.waiting (eqb (at d dpastat) 0) (eqb (at d dpsstat) 0) (eqb (at d exfak) 0) h in
      let w = awake_unless NoStatus h (λ g. let q : ◌≡◌ {A = ℕ} 0 1 = cc in omega arith) in
      rw e (w, ap (λ (s : State). s.device) f, eqb-true (at d dpastat) 0 z.0, eqb-true (at d exfak) 0 z.1)
  looks_leave Status h l =
      let w = awake_unless Status h (λ g. let q : ◌≡◌ {A = ℕ} 0 1 = cc in omega arith) in
      elim (checks_leave exfak _ t u x l) [
        | inl bad ↦ rw bad tt
        | inr (e, m₁, e-is, same₁, e-good, l₁) ↦ elim (checks_leave dpsstat _ m₁ u x l₁) [
          | inl bad ↦ rw bad tt
          | inr (s, m₂, s-is, same₂, s-good, l₂) ↦ elim (checks_leave dpastat _ m₂ u x l₂) [
            | inl bad ↦ rw bad tt
            | inr (a, m₃, a-is, same₃, a-good, (is, end)) ↦
                rw is (w, ap (λ (z : State). z.device) end ∙ same₃ ∙ same₂ ∙ same₁, e-is, s-is ∙ ap (λ (d : Device). at d dpsstat) same₁, a-is ∙ ap (λ (d : Device). at d dpastat) (same₂ ∙ same₁), e-good, a-good)
          ]
        ]
      ]

pub polls_leave : (t u : State) (x : Seen) → Leaves polls t x u → (d : Device) × Made Poll t.device d × Saw x d u.device
polls_leave t u x (y, m, l, rest) = (m.device, l.1, looks_leave m u x (says m.device) refl (rw l.2 at rest))
