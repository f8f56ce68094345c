-- How performing a procedure is put together, step by step, as code goes through it.
use Rattle.std.proofs.Common.{◌≡◌, ℕ, suc, ◌+◌, ◌<◌, ◌≤◌, ◌⊎◌, Bool, true, false, List, [], ◌∷◌, ◌++◌, length, get_or, drop, IsErrAnd, Some, Ok, Err, Option, Result, sym, refl, ap, ◌∙◌, inl, inr, append_assoc, append-nil, add-one, drop-cons}
use Rattle.std.proofs.lemmas.Result.{err_from_is_err_and}
use Rattle.std.proofs.lemmas.List.{drop_all}
use Rattle.line.specs.declared.command.Command.{Command}
use Rattle.line.specs.declared.command.Reply.{Reply}
use Rattle.procedures.specs.declared.silence.Silence.{Silence}
use Rattle.procedures.specs.Silences.{silence_of}
use Rattle.procedures.specs.Procedure.{Procedure, gives, sends, once, thens, either, reads, writes, reads_row, writes_row}
use Rattle.procedures.specs.Performs.{Step, Unanswered, Goes, Performs, performs, as_bytes}

-- whatever performs the rest from here performs the whole from the start
abbrev pub Led : {S A : Type 0} → Step S → Procedure A → S → Procedure A → S → Type 0
Led {S} {A} W p s q m = (r : Result A Silence) (t : S) → Performs W q m r t → Performs W p s r t

-- what was read comes before what is read after it
abbrev pub prepend : List ℕ → Result (List ℕ) Silence → Result (List ℕ) Silence
prepend front (Ok bs) = Ok (front ++ bs)
prepend front (Err e) = Err e

prepend_more : (front : List ℕ) (b : ℕ) (r : Result (List ℕ) Silence) → prepend front (prepend (b ∷ []) r) ≡ prepend (front ++ (b ∷ [])) r
prepend_more front b (Ok bs) = ap Ok (sym (append_assoc front (b ∷ []) bs))
prepend_more front b (Err e) = refl

-- a row of reads, of which a front was read
abbrev pub Reading : {S : Type 0} → Step S → List ℕ → S → ℕ → List ℕ → S → Type 0
Reading {S} W ps s i front m = (r : Result (List ℕ) Silence) (t : S) → Performs W (reads_row (drop i ps)) m r t → Performs W (reads_row ps) s (prepend front r) t

module _ {S : Type 0} {W : Step S} where
  infixr 5 ◌▸◌
  pub ◌▸◌ : {A B : Type 0} {p : Procedure A} {f : A → Procedure B} {s m t : S} {a : A} {r : Result B Silence} → Performs W p s (Ok a) m → Performs W (f a) m r t → Performs W (thens p f) s r t
  unfolding Goes
  ◌▸◌ (performs u) (performs v) = performs (inl (_, _, u, v))

  pub given : {A : Type 0} {a : A} {s : S} → Performs W (gives a) s (Ok a) s
  unfolding Goes
  given = performs (refl, refl)

  -- a silence comes through as it is
  pub stops : {A B : Type 0} {p : Procedure A} {f : A → Procedure B} {s t : S} {e : Silence} (r : Result B Silence) → IsErrAnd r (λ y. y ≡ e) → Performs W p s (Err e) t → Performs W (thens p f) s r t
  unfolding Goes
  stops r h (performs u) = let q = err_from_is_err_and r h in performs (inr (_, u, q.1 ∙ ap Err q.2))

  pub passes : {c : Command} {s t : S} (q : Option Reply) → W s c q t → Performs W (once c) s (Ok tt) t
  unfolding Goes
  passes q w = performs (q, w, refl)

  pub heard : {s m t : S} {c : Command} {y : Reply} (n : ℕ) → n < 32 → Unanswered W c s n m → W m c (Some y) t → Performs W (sends c) s (Ok y) t
  unfolding Goes
  heard n h a w = performs (n, _, h, a, w)

  pub silent : {s t : S} {c : Command} {e : Silence} (n : ℕ) → n ≡ 32 → Unanswered W c s n t → e ≡ silence_of c → Performs W (sends c) s (Err e) t
  unfolding Goes
  silent n h a e = performs (n, h, a, e)

  pub so : {A : Type 0} {p : Procedure A} (q : Procedure A) {s t : S} {r : Result A Silence} (b : Bool) → b ≡ true → Performs W p s r t → Performs W (either b p q) s r t
  so q b e u = rw e u

  pub else : {A : Type 0} (p : Procedure A) {q : Procedure A} {s t : S} {r : Result A Silence} (b : Bool) → b ≡ false → Performs W q s r t → Performs W (either b p q) s r t
  else p b e u = rw e u

  -- rows of writes, by what is left of them
  pub row_more : {a b : ℕ} {ps bs qs cs : List ℕ} (p : Procedure (Unit {0})) (s m n : S) → qs ≡ a ∷ ps → cs ≡ b ∷ bs → Led W p s (writes_row qs cs) m → Performs W (writes a b) m (Ok tt) n → Led W p s (writes_row ps bs) n
  row_more p s m n e f led u r t v = led r t (rw (e, f) (u ▸ v))

  pub row_broken : {a b : ℕ} {ps bs qs cs : List ℕ} {e : Silence} (p : Procedure (Unit {0})) (s m t : S) (r : Result (Unit {0}) Silence) → IsErrAnd r (λ y. y ≡ e) → qs ≡ a ∷ ps → cs ≡ b ∷ bs → Led W p s (writes_row qs cs) m
      → Performs W (writes a b) m (Err e) t → Performs W p s r t
  row_broken p s m t r h e f led u = led r t (rw (e, f) (stops r h u))

  -- it ends with the places or with the bytes
  none_left : (qs cs : List ℕ) (m : S) → (qs ≡ []) ⊎ (cs ≡ []) → Performs W (writes_row qs cs) m (Ok tt) m
  none_left qs cs m (inl e) = rw e given
  none_left [] cs m (inr f) = given
  none_left (a ∷ ps) cs m (inr f) = rw f given

  pub row_done : {qs cs : List ℕ} (p : Procedure (Unit {0})) (s m : S) → (qs ≡ []) ⊎ (cs ≡ []) → Led W p s (writes_row qs cs) m → Performs W p s (Ok tt) m
  row_done {qs} {cs} p s m e led = led (Ok tt) m (none_left qs cs m e)

  -- rows of reads, at an index
  read_then : (a b : ℕ) (ps : List ℕ) (m n t : S) (r : Result (List ℕ) Silence) → Performs W (reads a) m (Ok b) n → Performs W (reads_row ps) n r t → Performs W (reads_row (a ∷ ps)) m (prepend (b ∷ []) r) t
  unfolding Goes
  read_then a b ps m n t (Ok bs) u v = u ▸ v ▸ given
  read_then a b ps m n t (Err e) u v = u ▸ broken v
    where
      broken : {f : List ℕ → Procedure (List ℕ)} → Performs W (reads_row ps) n (Err e) t → Performs W (thens (reads_row ps) f) n (Err e) t
      broken (performs w) = performs (inr (e, w, refl))

  pub reading_begins : (ps : List ℕ) (s : S) → Reading W ps s 0 [] s
  reading_begins ps s (Ok bs) t u = u
  reading_begins ps s (Err e) t u = u

  pub reading_more : (ps : List ℕ) (s m n : S) (i b : ℕ) (front : List ℕ) → i < length ps → Reading W ps s i front m → Performs W (reads (get_or ps i 0)) m (Ok b) n → Reading W ps s (i + 1) (front ++ (b ∷ [])) n
  reading_more ps s m n i b front h led u r t v =
      let w : Performs W (reads_row (drop i ps)) m (prepend (b ∷ []) r) t = rw (drop-cons ps i 0 h) (read_then (get_or ps i 0) b (drop (suc i) ps) m n t r u (rw (add-one i) at v)) in
      rw (prepend_more front b r) at (led (prepend (b ∷ []) r) t w)

  pub reading_broken : (ps : List ℕ) (s m t : S) (i : ℕ) (front : List ℕ) (e : Silence) → i < length ps → Reading W ps s i front m → Performs W (reads (get_or ps i 0)) m (Err e) t → Performs W (reads_row ps) s (Err e) t
  unfolding Goes
  reading_broken ps s m t i front e h led (performs u) = led (Err e) t (rw (drop-cons ps i 0 h) (performs (inr (e, u, refl))))

  pub reading_done : (ps : List ℕ) (s m : S) (i : ℕ) (front : List ℕ) → length ps ≤ i → Reading W ps s i front m → Performs W (reads_row ps) s (Ok front) m
  reading_done ps s m i front h led =
      let w : Performs W (reads_row (drop i ps)) m (Ok []) m = rw (drop_all i ps h) given in
      rw (append-nil front) at (led (Ok []) m w)

  -- a silence where the result is a record, told by its bytes
  pub stops_as : {A R : Type 0} {p : Procedure A} {f : A → Procedure (List ℕ)} {s t : S} {e : Silence} (bytes : R → List ℕ) (r : Result R Silence) → IsErrAnd r (λ y. y ≡ e) → Performs W p s (Err e) t → Performs W (thens p f) s (as_bytes bytes r) t
  unfolding Goes
  stops_as bytes r h (performs u) = let q = err_from_is_err_and r h in rw q.1 (performs (inr (_, u, ap Err q.2)))
