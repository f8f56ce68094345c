-- Any memory that differs only where the device's program may write is one that it may leave.
use Rattle.std.proofs.Common.{◌≡◌, ℕ, ◌<◌, ◌≤◌, Bool, true, false, cond, eqb, ltb, List, length, get_or, sym, refl, ap, ◌∙◌, subst, arith, ltb-false, ltb-true, eqb-true}
use Rattle.std.proofs.lemmas.List.{ext_get_or}
use Rattle.tca.specs.Fields.{dpastat, dpsstat, exfak, event_places, synchronous_places, expedited_places, unit_half, data_area}
use Rattle.line.specs.State.{Device, Choice, at}
use Rattle.line.specs.Rules.{remake, byte_after, is_in}
use Rattle.line.proofs.Memory.{remake_length, remake_at}

pub record Leaves (event end expedited : Bool) (ch : Choice) (d : Device) (m : List ℕ) : Type 0 where
  pub long : length m ≡ length d.memory
  pub chosen : ch.bytes ≡ m
  pub at_dpastat : get_or m dpastat 0 ≡ cond event ch.to_dpastat (at d dpastat)
  pub at_dpsstat : get_or m dpsstat 0 ≡ cond end ch.to_dpsstat (at d dpsstat)
  pub at_exfak : get_or m exfak 0 ≡ cond expedited ch.to_exfak (at d exfak)
  pub no_event : event ≡ false → (j : ℕ) → is_in event_places j ≡ true → get_or m j 0 ≡ at d j
  pub no_end : end ≡ false → (j : ℕ) → is_in synchronous_places j ≡ true → get_or m j 0 ≡ at d j
  pub no_expedited : expedited ≡ false → (j : ℕ) → is_in expedited_places j ≡ true → get_or m j 0 ≡ at d j
  pub no_unit : (j : ℕ) → is_in expedited_places j ≡ false → unit_half ≤ j → j < data_area → get_or m j 0 ≡ at d j
  pub no_data : d.working ≡ false → (j : ℕ) → data_area ≤ j → get_or m j 0 ≡ at d j

by_case : {A : Type 0} (b : Bool) (x y z : A) → (b ≡ true → z ≡ x) → (b ≡ false → z ≡ y) → z ≡ cond b x y
by_case true x y z f g = f refl
by_case false x y z f g = g refl

module _ (event end expedited : Bool) (ch : Choice) (d : Device) (m : List ℕ) (l : Leaves event end expedited ch d m) where
  byte : (j : ℕ) → get_or m j 0 ≡ byte_after event end expedited ch d j (at d j)
  byte j =
      let b : get_or m j 0 ≡ get_or ch.bytes j 0 = ap (λ (xs : List ℕ). get_or xs j 0) (sym l.chosen) in
      by_case (eqb j dpastat) _ _ _ (λ e. subst (λ (i : ℕ). get_or m i 0 ≡ cond event ch.to_dpastat (at d i)) (sym (eqb-true j dpastat e)) l.at_dpastat) (λ _.
      by_case (eqb j dpsstat) _ _ _ (λ e. subst (λ (i : ℕ). get_or m i 0 ≡ cond end ch.to_dpsstat (at d i)) (sym (eqb-true j dpsstat e)) l.at_dpsstat) (λ _.
      by_case (eqb j exfak) _ _ _ (λ e. subst (λ (i : ℕ). get_or m i 0 ≡ cond expedited ch.to_exfak (at d i)) (sym (eqb-true j exfak e)) l.at_exfak) (λ _.
      by_case (is_in event_places j) _ _ _ (λ i. by_case event _ _ _ (λ _. b) (λ n. l.no_event n j i)) (λ _.
      by_case (is_in synchronous_places j) _ _ _ (λ i. by_case end _ _ _ (λ _. b) (λ n. l.no_end n j i)) (λ _.
      by_case (is_in expedited_places j) _ _ _ (λ i. by_case expedited _ _ _ (λ _. b) (λ n. l.no_expedited n j i)) (λ i.
      by_case (ltb j unit_half) _ _ _ (λ _. b) (λ h.
      by_case (ltb j data_area) _ _ _ (λ k. l.no_unit j i (ltb-false j unit_half h) (ltb-true j data_area k)) (λ k.
      by_case d.working _ _ _ (λ _. b) (λ w. l.no_data w j (ltb-false j data_area k))))))))))

  pub left : remake (byte_after event end expedited ch d) d.memory ≡ m
  left =
      let f = byte_after event end expedited ch d in
      let n = remake_length f d.memory in
      ext_get_or 0 (remake f d.memory) m (n ∙ sym l.long) (λ j h. remake_at f d.memory j (omega arith) ∙ sym (byte j))
