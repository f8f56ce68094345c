-- Reading one toggle: a bad one ends in a Reset, another goes on.
use Rattle.std.proofs.Common.{◌≡◌, ℕ, ◌≤◌, ltb, IsErrAnd, Ok, Err, Result, refl, le-ltb, lt-ltb}
use Rattle.std.proofs.lemmas.Result.{err_from_is_err_and}
use Rattle.procedures.specs.declared.silence.Silence.{Silence}
use Rattle.procedures.specs.Procedure.{Procedure, reads}
use Rattle.procedures.specs.Performs.{Step, Performs}
use Rattle.procedures.proofs.Steps.{◌▸◌, given, so, else, stops}
use Rattle.ports.specs.declared.seen.Seen.{Seen}
use Rattle.ports.specs.declared.seen.Seen.TheVariants.{Bad}
use Rattle.ports.specs.Sendings.{checks, resets}
use Rattle.looking.specs.declared.Early.{Early}
use Rattle.looking.specs.declared.Early.TheVariants.{Silent, BadToggle}
use Rattle.looking.specs.Ends.{EndsAt, seen_by}

module _ {S : Type 0} {W : Step S} where
  pub good : {a v : ℕ} (f : ℕ → Procedure Seen) {s m t : S} {r : Result Seen Silence} → (v ≤ 1) × Performs W (reads a) s (Ok v) m → Performs W (f v) m r t → Performs W (checks a f) s r t
  good f u k = u.1 ▸ else (resets (Bad _)) (ltb 1 _) (le-ltb _ _ u.0) k

  ended : {a : ℕ} (f : ℕ → Procedure Seen) {s t : S} (early : Early) → EndsAt W a s early t → Performs W (checks a f) s (seen_by (Err early)) t
  ended f (Silent e) u = stops {e = e} _ refl u
  ended {a} f (BadToggle b) (same, v, m, high, u, k) = rw same (u ▸ so (f _) (ltb 1 _) (lt-ltb _ _ high) (k ▸ given))

  pub ends : {a : ℕ} (f : ℕ → Procedure Seen) {s t : S} (early : Early) (r : Result Seen Early) → IsErrAnd r (λ y. y ≡ early) → EndsAt W a s early t → Performs W (checks a f) s (seen_by r) t
  ends f early r h u = let q = err_from_is_err_and r h in rw (q.1, q.2) (ended f early u)
