-- The sendings of a procedure decide its outcome: their choices, in order, give the same by the function.
use Rattle.std.proofs.Common.{◌≡◌, ℕ, suc, ◌+◌, ◌-◌, List, [], ◌∷◌, ◌++◌, Ok, Err, Result, sym, refl, ◌∙◌, inl, inr, append_assoc, append-nil, zero-add, arith}
use Rattle.line.specs.declared.command.Command.{Command}
use Rattle.line.specs.declared.command.Reply.{Reply}
use Rattle.line.specs.State.{State, Choice}
use Rattle.line.specs.Rules.{Permitted}
use Rattle.procedures.specs.declared.silence.Silence.{Silence}
use Rattle.procedures.specs.Procedure.{Procedure, gives, sends, once, thens}
use Rattle.procedures.specs.Performed.{Performed, tried, performed}
use Rattle.procedures.specs.Performs.{Unanswered, none, more, Sends, Goes, performs}
use Rattle.procedures.specs.Laws.{SendingsDecideTheOutcome}

abbrev ending : {A : Type 0} → Result A Silence → State → List Choice → Performed A
ending r u cs = record { result = r; state = u; left = cs }

-- choices by which unanswered sendings lead from one state to the other, whatever comes after them
Passes : Command → State → ℕ → State → Type 0
Passes c t n m = (cs : List Choice) × ((k : ℕ) (rest : List Choice) → tried (n + k) c (cs ++ rest) t ≡ tried k c rest m)

passes : {c : Command} {t m : State} {n : ℕ} → Unanswered Permitted c t n m → Passes c t n m
unfolding Passes tried
passes none = ([], λ k rest. rw (zero-add k) refl)
passes {c} {t} (more {n = n} {m = m} {t = u} p w) =
    let i = passes p in
    let ch = w.0 in (
      i.0 ++ (ch ∷ []),
      λ k rest.
          let long : n + 1 + k ≡ n + suc k = omega arith in
          let again : tried (suc k) c (ch ∷ rest) m ≡ tried k c rest u = rw (sym w.2, sym w.1) refl in
          rw (append_assoc i.0 (ch ∷ []) rest, long) (i.1 (suc k) (ch ∷ rest) ∙ again),
    )

-- choices by which a procedure comes to its end, whatever comes after them
Decides : {A : Type 0} → Procedure A → State → Result A Silence → State → Type 0
Decides p t r u = (cs : List Choice) × ((rest : List Choice) → performed p (cs ++ rest) t ≡ ending r u rest)

sent : (c : Command) (t u : State) (r : Result Reply Silence) → Sends Permitted c t r u → Decides (sends c) t r u
unfolding Decides Passes tried performed
sent c t u (Ok y) (n, m, few, p, w) =
    let i = passes p in
    let ch = w.0 in (
      i.0 ++ (ch ∷ []),
      λ rest.
          let k = 31 - n in
          let long : 32 ≡ n + suc k = omega arith in
          let last : tried (suc k) c (ch ∷ rest) m ≡ ending (Ok y) u rest = rw (sym w.2, sym w.1) refl in
          let whole : tried (n + suc k) c (i.0 ++ (ch ∷ rest)) t ≡ ending (Ok y) u rest = i.1 (suc k) (ch ∷ rest) ∙ last in
          rw (append_assoc i.0 (ch ∷ []) rest) (rw (sym long) at whole),
    )
sent c t u (Err e) (n, all, p, told) =
    let i = passes p in (
      i.0,
      λ rest.
          let long : n + 0 ≡ 32 = omega arith in
          rw told (rw long at (i.1 0 rest)),
    )

decides : {A : Type 0} (p : Procedure A) (t u : State) (r : Result A Silence) → Goes Permitted p t r u → Decides p t r u
unfolding Decides performed Goes
decides (gives a) t u r (same, result) = ([], λ rest. rw (same, result) refl)
decides (sends c) t u r g = sent c t u r g
decides (once c) t u r (y, w, result) = (w.0 ∷ [], λ rest. rw (result, w.1) refl)
decides (thens p f) t u r (inl (a, m, g, h)) =
    let i = decides p t m (Ok a) g in
    let j = decides (f a) m u r h in
    (i.0 ++ j.0, λ rest. rw (append_assoc i.0 j.0 rest, i.1 (j.0 ++ rest)) (j.1 rest))
decides (thens p f) t u r (inr (e, g, result)) =
    let i = decides p t u (Err e) g in
    (i.0, λ rest. rw (i.1 rest, result) refl)

pub sendings_decide_the_outcome : SendingsDecideTheOutcome
unfolding Decides
sendings_decide_the_outcome A p t u r (performs g) =
    let i = decides p t u r g in
    (i.0, rw (append-nil i.0) at (i.1 []))
