-- What the lines tell, by number, where one of them changes.
use Rattle.std.proofs.Common.{◌≡◌, ◌≢◌, ℕ, zero, suc, ◌<◌, List, [], ◌∷◌, length, get_or, set, slice_get, Some, None, Option, sym, refl, ap, ◌∙◌, arith, length-set, get_or-set_same}
use Rattle.std.proofs.lemmas.Option.{slice_get-get_or, slice_get_read, get_or_from_slice_get}
use Rattle.std.specs.Option.{option_map_or}
use Rattle.line.specs.State.{State}
use Rattle.line.specs.Rules.{Lawful}
use Rattle.hall.specs.Lines.{nowhere, told, OfLine, OthersStay}

nowhere_lawful : Lawful nowhere
unfolding nowhere
nowhere_lawful = record {
  large = omega arith;
  small = omega arith;
  eight = refl;
  taken_fits = omega arith;
  events_fit = omega arith;
  expedited_fit = omega arith;
  row_held = omega arith;
  new = λ w. record { not_working = refl; none_seen = refl; none_taken = refl; no_events = refl; no_expedited = refl; dpastat_zero = refl; dpsstat_zero = refl; exfak_zero = refl };
}

module _ {L : Type 0} where
  -- the line that changed is the new one, and each other one is itself
  changed : (xs : List L) (i : ℕ) (y : L) → i < length xs → slice_get (set xs i y) i ≡ Some y
  changed xs i y h =
      let k : i < length (set xs i y) = rw length-set h in
      slice_get_read (set xs i y) _ i y refl k (sym (get_or-set_same xs i y y h))

  pub kept_others : (xs : List L) (i : ℕ) (y : L) → OthersStay i xs (set xs i y)
  kept_others [] i y r e = refl
  kept_others (x ∷ xs) zero y zero e = absurd (e refl)
  kept_others (x ∷ xs) zero y (suc r) e = refl
  kept_others (x ∷ xs) (suc i) y zero e = refl
  kept_others (x ∷ xs) (suc i) y (suc r) e = kept_others xs i y r (λ h. e (ap suc h))

  pub of_line : (xs : List L) (i n : ℕ) (y d : L) (Holds : L → L → Type 0) → i ≡ n → i < length xs → Holds (get_or xs i d) y → OfLine n xs (set xs i y) Holds
  of_line xs i n y d Holds e h x s t p q =
      let before : get_or xs i d ≡ s = get_or_from_slice_get xs i s d (rw (← e) at p) in
      let after : Some y ≡ Some t = sym (changed xs i y h) ∙ (rw (← e) at q) in
      let same : y ≡ t = cc in
      rw (before, same) at x

module _ {L : Type 0} (f : L → State) where
  tells : Option L → State
  tells o = option_map_or f o nowhere

  -- at a number that has a line
  pub told_at : (xs : List L) (i : ℕ) (d : L) → i < length xs → told f xs i ≡ f (get_or xs i d)
  unfolding tells
  told_at xs i d h = ap tells (slice_get-get_or xs i d h)

  -- at the number of the line that changed
  pub told_set : (xs : List L) (i : ℕ) (y : L) → i < length xs → told f (set xs i y) i ≡ f y
  unfolding tells
  told_set xs i y h = ap tells (changed xs i y h)

  -- at another
  pub told_other : (xs : List L) (i r : ℕ) (y : L) → r ≢ i → told f (set xs i y) r ≡ told f xs r
  unfolding tells
  told_other xs i r y e = ap tells (kept_others xs i y r e)

  -- at any, where the line that changed tells what it told
  pub told_same : (xs : List L) (i : ℕ) (y d : L) → f y ≡ f (get_or xs i d) → (r : ℕ) → told f (set xs i y) r ≡ told f xs r
  told_same [] i y d e r = refl
  told_same (x ∷ xs) zero y d e zero = e
  told_same (x ∷ xs) zero y d e (suc r) = refl
  told_same (x ∷ xs) (suc i) y d e zero = refl
  told_same (x ∷ xs) (suc i) y d e (suc r) = told_same xs i y d e r

  -- a line or none, what is told is lawful
  pub told_lawful : ((s : L) → Lawful (f s)) → (o : Option L) → Lawful (option_map_or f o nowhere)
  told_lawful always None = nowhere_lawful
  told_lawful always (Some s) = always s
