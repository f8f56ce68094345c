-- A table is sound where one computation over all its rows and pairs of rows says so.
use Rattle.std.proofs.Common.{ℕ, zero, suc, ◌+◌, ◌<◌, Bool, true, false, ◌&&◌, ◌||◌, T, leb, ◌⊎◌, List, [], ◌∷◌, length, get_or, inl, inr, le_of_suc-le-suc, not-suc-le-zero, leb→le}
use Rattle.tca.specs.declared.field.Field.{Field}
use Rattle.tca.specs.declared.field.Half.{Half}
use Rattle.tca.specs.declared.field.Half.TheVariants.{Device, Unit as OfUnit}
use Rattle.tca.specs.Fields.{unit_half, data_area}
use Rattle.tca.specs.Table.{nowhere, Apart, In, Sound}

left : (a b : Bool) → T (a && b) → T a
left true b t = tt
left false b t = t

right : (a b : Bool) → T (a && b) → T b
right true b t = t
right false b t = absurd t

either : (a b : Bool) → T (a || b) → T a ⊎ T b
either true b t = inl tt
either false b t = inr t

abbrev before? : Field → Field → Bool
before? f g = leb (f.address + f.length) g.address

abbrev apart? : Field → Field → Bool
apart? f g = before? f g || before? g f

apart_is : (f g : Field) → T (apart? f g) → Apart f g
apart_is f g t =
    elim (either (before? f g) (before? g f) t) [ inl u ↦ inl (leb→le _ _ u) | inr u ↦ inr (leb→le _ _ u) ]

abbrev in? : Field → Half → Bool
in? f Device = leb (f.address + f.length) unit_half
in? f OfUnit = leb unit_half f.address && leb (f.address + f.length) data_area

in_is : (f : Field) (h : Half) → T (in? f h) → In f h
in_is f Device t = leb→le _ _ t
in_is f OfUnit t = (leb→le _ _ (left (leb unit_half f.address) _ t), leb→le _ _ (right (leb unit_half f.address) _ t))

abbrev own? : Field → Bool
own? f = in? f f.half

abbrev all? : (Field → Bool) → List Field → Bool
all? p [] = true
all? p (f ∷ fs) = p f && all? p fs

abbrev pairs? : List Field → Bool
pairs? [] = true
pairs? (f ∷ fs) = all? (apart? f) fs && pairs? fs

all_at : (p : Field → Bool) (fs : List Field) → T (all? p fs) → (i : ℕ) → i < length fs → T (p (get_or fs i nowhere))
all_at p [] t i h = absurd (not-suc-le-zero h)
all_at p (f ∷ fs) t zero h = left (p f) (all? p fs) t
all_at p (f ∷ fs) t (suc i) h = all_at p fs (right (p f) (all? p fs) t) i (le_of_suc-le-suc h)

pairs_at : (fs : List Field) → T (pairs? fs) → (i j : ℕ) → i < j → j < length fs → Apart (get_or fs i nowhere) (get_or fs j nowhere)
pairs_at [] t i j h l = absurd (not-suc-le-zero l)
pairs_at (f ∷ fs) t i zero h l = absurd (not-suc-le-zero h)
pairs_at (f ∷ fs) t zero (suc j) h l =
    apart_is f (get_or fs j nowhere) (all_at (apart? f) fs (left (all? (apart? f) fs) (pairs? fs) t) j (le_of_suc-le-suc l))
pairs_at (f ∷ fs) t (suc i) (suc j) h l =
    pairs_at fs (right (all? (apart? f) fs) (pairs? fs) t) i j (le_of_suc-le-suc h) (le_of_suc-le-suc l)

abbrev pub sound? : List Field → Bool
sound? fs = all? own? fs && pairs? fs

pub sound_is : (fs : List Field) → T (sound? fs) → Sound fs
sound_is fs t = record {
  owned = λ i h. in_is (get_or fs i nowhere) _ (all_at own? fs (left (all? own? fs) (pairs? fs) t) i h);
  apart = pairs_at fs (right (all? own? fs) (pairs? fs) t);
}
