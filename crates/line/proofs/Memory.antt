-- Memory that is made anew byte by byte.
use Rattle.std.proofs.Common.{◌≡◌, ℕ, zero, suc, ◌+◌, ◌<◌, List, [], ◌∷◌, length, get_or, refl, ap, le_of_suc-le-suc, not-suc-le-zero, add-zero, arith}
use Rattle.line.specs.Rules.{remake, remake_from}

from_length : (i : ℕ) (f : ℕ → ℕ → ℕ) (xs : List ℕ) → length (remake_from i f xs) ≡ length xs
from_length i f [] = refl
from_length i f (x ∷ xs) = ap suc (from_length (suc i) f xs)

from_at : (i : ℕ) (f : ℕ → ℕ → ℕ) (xs : List ℕ) (j : ℕ) → j < length xs → get_or (remake_from i f xs) j 0 ≡ f (i + j) (get_or xs j 0)
from_at i f [] j h = absurd (not-suc-le-zero h)
from_at i f (x ∷ xs) zero h = rw (add-zero i) refl
from_at i f (x ∷ xs) (suc j) h = let e : i + suc j ≡ suc i + j = omega arith in rw e (from_at (suc i) f xs j (le_of_suc-le-suc h))

pub remake_length : (f : ℕ → ℕ → ℕ) (xs : List ℕ) → length (remake f xs) ≡ length xs
unfolding remake
remake_length f xs = from_length 0 f xs

pub remake_at : (f : ℕ → ℕ → ℕ) (xs : List ℕ) (j : ℕ) → j < length xs → get_or (remake f xs) j 0 ≡ f j (get_or xs j 0)
unfolding remake
remake_at f xs j h = let e : 0 + j ≡ j = omega arith in rw e at (from_at 0 f xs j h)
