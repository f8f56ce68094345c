-- Which texts spell a row, and which row.
use Rattle.std.proofs.Common.{◌≡◌, ℕ, zero, suc, ◌+◌, ◌*◌, ◌/◌, ◌<◌, Bool, true, false, ◌&&◌, List, [], ◌∷◌, length, get_or, set, is_some, Some, None, Option, refl, arith}
use Rattle.std.proofs.Math.Bool.{and_assoc, and-false}
use Rattle.std.proofs.lemmas.Grind.{get_or-set_at}
use Rattle.std.proofs.lemmas.List.{get_or-set_other}
use Rattle.std.specs.Option.{unwrap_or}
use Rattle.std.specs.Simd.{first_chunks}
use Rattle.hexadecimal.specs.Hex.{byte_in, pair_byte, before, row_in, all_digits}

both : (p : Option ℕ) (r : Option (List ℕ)) → is_some (before p r) ≡ (is_some p && is_some r)
both None r = refl
both (Some b) None = refl
both (Some b) (Some bs) = refl

both_digits : (p q : Option ℕ) → is_some (byte_in p q) ≡ (is_some p && is_some q)
both_digits None q = refl
both_digits (Some h) None = refl
both_digits (Some h) (Some l) = refl

-- a text of the right length spells a row if it is all digits
pub right_length : (n : ℕ) (text : List ℕ) → length text ≡ 2 * n → is_some (row_in n text) ≡ all_digits text
right_length zero [] e = refl
right_length zero (d ∷ text) e = absurd (omega arith)
right_length (suc n) [] e = absurd (omega arith)
right_length (suc n) (h ∷ []) e = absurd (omega arith)
right_length (suc n) (h ∷ l ∷ text) e = rw (both, both_digits, and_assoc, right_length n text (omega arith)) refl

pub wrong_length : (n : ℕ) (text : List ℕ) → (length text ≡ 2 * n → ⊥) → is_some (row_in n text) ≡ false
wrong_length zero [] e = absurd (e refl)
wrong_length zero (d ∷ text) e = refl
wrong_length (suc n) [] e = refl
wrong_length (suc n) (h ∷ []) e = refl
wrong_length (suc n) (h ∷ l ∷ text) e = rw (both, wrong_length n text (λ same. e (omega arith)), and-false) refl

parts : (a b : Bool) → (a && b) ≡ true → (a ≡ true) × (b ≡ true)
parts true b e = (refl, e)
parts false b e = let z : false ≡ true = e in cc

-- each pair of a text that spells a row is a byte
some_at : (n : ℕ) (text : List ℕ) (k : ℕ) (d : List ℕ) → is_some (row_in n text) ≡ true → k < n → is_some (pair_byte (get_or (first_chunks 2 n text) k d)) ≡ true
unfolding pair_byte
some_at zero text k d e h = absurd (omega arith)
some_at (suc n) [] k d e h = let z : false ≡ true = e in cc
some_at (suc n) (c ∷ []) k d e h = let z : false ≡ true = e in cc
some_at (suc n) (c ∷ l ∷ text) zero d e h = (parts _ _ (rw both at e)).0
some_at (suc n) (c ∷ l ∷ text) (suc k) d e h = some_at n text k d (parts _ _ (rw both at e)).1 (omega arith)

pub pair_is_byte : (n k : ℕ) (text : List ℕ) (pairs : List (List ℕ)) → pairs ≡ first_chunks 2 (length text / 2) text → length text ≡ 2 * n → k < n → is_some (row_in n text) ≡ true → is_some (pair_byte (get_or pairs k [])) ≡ true
pair_is_byte n k text pairs e long h some = let half : length text / 2 ≡ n = omega arith in rw (e, half) (some_at n text k [] some h)

filled : (bs text : List ℕ) → length text ≡ 2 * length bs → ((k : ℕ) → k < length bs → pair_byte (get_or (first_chunks 2 (length bs) text) k []) ≡ Some (get_or bs k 0)) → row_in (length bs) text ≡ Some bs
unfolding pair_byte
filled [] [] e f = refl
filled [] (d ∷ text) e f = absurd (omega arith)
filled (b ∷ bs) [] e f = absurd (omega arith)
filled (b ∷ bs) (h ∷ []) e f = absurd (omega arith)
filled (b ∷ bs) (h ∷ l ∷ text) e f =
    rw (f 0 (omega arith), filled bs text (omega arith) (λ k below. f (suc k) (omega arith))) refl

-- a text whose pairs are the bytes of a row spells it
pub row_filled : (bs text : List ℕ) (pairs : List (List ℕ)) → pairs ≡ first_chunks 2 (length text / 2) text → length text ≡ 2 * length bs → ((k : ℕ) → k < length bs → pair_byte (get_or pairs k []) ≡ Some (get_or bs k 0)) → row_in (length bs) text ≡ Some bs
row_filled bs text pairs e long each =
    let half : length text / 2 ≡ length bs = omega arith in
    filled bs text long (rw (e, half) at each)

-- a row that is filled below n, and at n too, is filled below n + 1
pub one_more : (n : ℕ) (pairs : List (List ℕ)) (bs : List ℕ) (b : ℕ) → n < length bs → ((k : ℕ) → k < n → pair_byte (get_or pairs k []) ≡ Some (get_or bs k 0)) → pair_byte (get_or pairs n []) ≡ Some b → (k : ℕ) → k < n + 1 → pair_byte (get_or pairs k []) ≡ Some (get_or (set bs n b) k 0)
one_more n pairs bs b inside each here k below = grind (arith, get_or-set_at, get_or-set_other)

-- an Option that holds a number holds the one that `unwrap_or` gives
pub given : (o : Option ℕ) → is_some o ≡ true → o ≡ Some (unwrap_or o 0)
given (Some b) e = refl
given None e = let z : false ≡ true = e in cc
