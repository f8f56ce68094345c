use Rattle.std.proofs.Common.{◌≡◌, ℕ, ◌+◌, List, ◌∷◌, length, refl, ap, inl, inr, add-one, arith}
use Rattle.std.proofs.lemmas.List.{nil_from_length}
use Rattle.std.specs.Slice.Iter.{iter_rest}
use Rattle.std.specs.Iterator.Adapters.{zip_second}
use Rattle.procedures.specs.Procedure.{rising}
use Rattle.procedures.proofs.Steps.{row_more, row_broken, row_done}
use Rattle.requesting.proofs.write_data.Goals as goal

-- the places of what is left, at one more byte
places_more : (a s n b : ℕ) (bs cs : List ℕ) → a ≡ s → n ≡ a + 1 → cs ≡ b ∷ bs → rising s (length cs) ≡ a ∷ rising n (length bs)
unfolding rising
places_more a s n b bs cs e f h = rw (h, f, add-one a, e) refl

pub loop-place-preserved : goal.loop-place-preserved
loop-place-preserved g c =
    let next = c.in-Some.ensures.steps in (
      omega (arith, ap length next.1),
      row_more _ _ _ _ (places_more _ _ _ _ _ _ next.0.0 next.0.1 next.1) next.1 c.loop-place.invariant.1 c.in_ok-write.ensures,
    )

pub returns-in_err-write : goal.returns-in_err-write
returns-in_err-write g c =
    let next = c.in-Some.ensures.steps in
    row_broken _ _ _ _ _ c.from_residual.ensures.1 (places_more _ _ _ _ _ _ next.0.0 next.0.1 next.1) next.1 c.loop-place.invariant.1 c.in_err-write.ensures

pub returns : goal.returns
returns g c =
    let none : length (iter_rest (zip_second c.loop-place.place-iterator)) ≡ 0 = elim c.in-None.ensures.steps [ inl (s, e) ↦ omega arith | inr (s, e) ↦ e.0 ] in
    row_done _ _ _ (inr (nil_from_length _ none)) c.loop-place.invariant.1
