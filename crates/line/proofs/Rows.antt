-- Bytes put at a row of addresses.
use Rattle.std.proofs.Common.{◌≡◌, ℕ, ◌<◌, ◌≤◌, Bool, true, false, cond, not, ◌&&◌, eqb, ltb, ◌⊎◌, inl, inr, List, [], ◌∷◌, length, get_or, set, sym, refl, ◌∙◌, arith, length-set, get_or-set_other, get_or-set_same, ltb-true, eq-eqb, ne_eqb, eqb-true}
use native.Mathlib.Nat.{suc_inj}
use borrow.Author.Tests.{clash, eqb-false}
use Rattle.std.proofs.lemmas.Bool.{and_parts, not-true}
use Rattle.line.specs.Rules.{is_in}
use Rattle.line.specs.Posts.{put_row}

pub row_ends : (ps bs m : List ℕ) → (ps ≡ []) ⊎ (bs ≡ []) → put_row ps bs m ≡ m
row_ends [] bs m h = refl
row_ends (p ∷ ps) [] m h = refl
row_ends (p ∷ ps) (b ∷ bs) m (inl e) = cc
row_ends (p ∷ ps) (b ∷ bs) m (inr e) = cc

pub row_length : (ps bs m : List ℕ) → length (put_row ps bs m) ≡ length m
row_length [] bs m = refl
row_length (p ∷ ps) [] m = refl
row_length (p ∷ ps) (b ∷ bs) m = row_length ps bs (set m p b) ∙ length-set m p b

-- an address that is not in the row keeps its byte
pub row_other : (ps bs m : List ℕ) (j : ℕ) → is_in ps j ≡ false → get_or (put_row ps bs m) j 0 ≡ get_or m j 0
row_other [] bs m j h = refl
row_other (p ∷ ps) [] m j h = refl
row_other (p ∷ ps) (b ∷ bs) m j h = one (eqb j p) refl h (λ k. row_other ps bs (set m p b) j k)
  where
    one : (e : Bool) → eqb j p ≡ e → cond e true (is_in ps j) ≡ false → (is_in ps j ≡ false → get_or (put_row ps bs (set m p b)) j 0 ≡ get_or (set m p b) j 0) → get_or (put_row ps bs (set m p b)) j 0 ≡ get_or m j 0
    one true e h f = absurd (clash (sym h))
    one false e h f = f h ∙ get_or-set_other m p j b 0 (eqb-false j p e)

-- two rows with no address in common
abbrev pub disjoint : List ℕ → List ℕ → Bool
disjoint [] ys = true
disjoint (x ∷ xs) ys = not (is_in ys x) && disjoint xs ys

pub apart : (xs ys : List ℕ) (j : ℕ) → disjoint xs ys ≡ true → is_in xs j ≡ true → is_in ys j ≡ false
apart [] ys j h i = absurd (clash i)
apart (x ∷ xs) ys j h i = one (eqb j x) (is_in ys x) refl refl h i (λ k l. apart xs ys j k l)
  where
    one : (e b : Bool) → eqb j x ≡ e → is_in ys x ≡ b → (not b && disjoint xs ys) ≡ true → cond e true (is_in xs j) ≡ true → (disjoint xs ys ≡ true → is_in xs j ≡ true → is_in ys j ≡ false) → is_in ys j ≡ false
    one e true q r h i f = absurd (clash h)
    one true false q r h i f = rw (eqb-true j x q) r
    one false false q r h i f = f h i

-- a row that ends below an address
abbrev pub all_below : ℕ → List ℕ → Bool
all_below n [] = true
all_below n (x ∷ xs) = ltb x n && all_below n xs

pub beyond : (n : ℕ) (xs : List ℕ) (j : ℕ) → all_below n xs ≡ true → n ≤ j → is_in xs j ≡ false
beyond n [] j h l = refl
beyond n (x ∷ xs) j h l = one (ltb x n) refl h (λ k. beyond n xs j k l)
  where
    one : (b : Bool) → ltb x n ≡ b → (b && all_below n xs) ≡ true → (all_below n xs ≡ true → is_in xs j ≡ false) → cond (eqb j x) true (is_in xs j) ≡ false
    one true q h f = let k : x < n = ltb-true x n q in let e : eqb j x ≡ false = ne_eqb j x (λ s. omega arith) in rw e (f h)
    one false q h f = absurd (clash h)

-- what was put at a row of addresses with no repeats is read there

abbrev pub distinct : List ℕ → Bool
distinct [] = true
distinct (x ∷ xs) = not (is_in xs x) && distinct xs

abbrev pub read_row : List ℕ → List ℕ → List ℕ
read_row [] m = []
read_row (p ∷ ps) m = get_or m p 0 ∷ read_row ps m

pub row_read : (n : ℕ) (ps bs m : List ℕ) → distinct ps ≡ true → all_below n ps ≡ true → n ≤ length m → length bs ≡ length ps → read_row ps (put_row ps bs m) ≡ bs
row_read n [] [] m d l h e = refl
row_read n [] (b ∷ bs) m d l h e = let z : ⊥ = omega (arith, e) in absurd z
row_read n (p ∷ ps) [] m d l h e = let z : ⊥ = omega (arith, e) in absurd z
row_read n (p ∷ ps) (b ∷ bs) m d l h e =
    let f = and_parts (not (is_in ps p)) (distinct ps) d in
    let g = and_parts (ltb p n) (all_below n ps) l in
    let k : p < length m = omega (arith, ltb-true p n g.0) in
    let here : get_or (put_row ps bs (set m p b)) p 0 ≡ b = row_other ps bs (set m p b) p (not-true (is_in ps p) f.0) ∙ get_or-set_same m p b 0 k in
    let rest = row_read n ps bs (set m p b) f.1 g.1 (rw (length-set m p b) h) (suc_inj e) in
    rw (here, rest) refl

-- a row of addresses that a change leaves alone reads the same
pub read_same : (ps m k : List ℕ) → ((j : ℕ) → is_in ps j ≡ true → get_or k j 0 ≡ get_or m j 0) → read_row ps k ≡ read_row ps m
read_same [] m k f = refl
read_same (p ∷ ps) m k f =
    let here = f p (first_in p ps) in
    let rest = read_same ps m k (λ j i. f j (later_in p ps j i)) in
    rw (here, rest) refl
  where
    first_in : (p : ℕ) (ps : List ℕ) → is_in (p ∷ ps) p ≡ true
    first_in p ps = rw (eq-eqb p p refl) refl

    later_in : (p : ℕ) (ps : List ℕ) (j : ℕ) → is_in ps j ≡ true → is_in (p ∷ ps) j ≡ true
    later_in p ps j i = rw i (either (eqb j p))
      where
        either : (b : Bool) → cond b true true ≡ true
        either true = refl
        either false = refl
