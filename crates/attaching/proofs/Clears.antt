-- What is left of a row of zeros.
use Rattle.std.proofs.Common.{◌≡◌, ℕ, suc, ◌+◌, ◌-◌, ◌<◌, ◌∷◌, replicate, refl, add-one, arith}

pub zeros_next : (a n : ℕ) → a < n → replicate {A = ℕ} (n - a) 0 ≡ 0 ∷ replicate (n - (a + 1)) 0
zeros_next a n h = let e : n - a ≡ suc (n - suc a) = omega arith in rw (add-one a, e) refl
