-- A list is its elements read one by one, so that a record read off a list has that list as its bytes.
use Rattle.std.specs.Prelude.{◌≡◌, ℕ, zero, suc, Bool, true, false, cond, T, List, [], ◌∷◌, length, Some, None, ◌==◌, slice_index, refl}
use Rattle.std.proofs.Common.{ap, ◌∙◌, arith, eqb→eq}
use Rattle.tca.specs.Families.{if_long}

-- n elements, read from the place i on
abbrev pub reads : ℕ → ℕ → List ℕ → List ℕ
reads zero i bs = []
reads (suc n) i bs = slice_index bs i ∷ reads n (suc i) bs

reads_later : (n i b : ℕ) (bs : List ℕ) → reads n (suc i) (b ∷ bs) ≡ reads n i bs
reads_later zero i b bs = refl
reads_later (suc n) i b bs = ap (λ (t : List ℕ). slice_index bs i ∷ t) (reads_later n (suc i) b bs)

pub reads_all : (n : ℕ) (bs : List ℕ) → length bs ≡ n → reads n 0 bs ≡ bs
reads_all zero [] e = refl
reads_all zero (b ∷ bs) e = let z : ⊥ = omega arith in absurd z
reads_all (suc n) [] e = let z : ⊥ = omega arith in absurd z
reads_all (suc n) (b ∷ bs) e = ap (λ (t : List ℕ). b ∷ t) (reads_later n 0 b bs ∙ reads_all n bs (omega arith))

when : {A : Type 0} (b : Bool) (x r : A) → cond b (Some x) None ≡ Some r → T b × (x ≡ r)
when true x r e = (tt, cc)
when false x r e = let z : ◌≡◌ {A = ℕ} 0 1 = cc in let no_way : ⊥ = omega arith in absurd no_way

-- bytes that are a record are as many as it has, and the record is the one read off them
pub if_long_is : {A : Type 0} (n : ℕ) (of : List ℕ → A) (bs : List ℕ) (r : A) → if_long n of bs ≡ Some r → (length bs ≡ n) × (of bs ≡ r)
if_long_is n of bs r e =
    let w = when (length bs == n) (of bs) r e in
    (eqb→eq (length bs) n w.0, w.1)
