-- A part of a buffer that was read, with the rest behind it.
use Rattle.std.proofs.Common.{◌≡◌, ℕ, ◌≤◌, List, ◌++◌, length, take, drop, Ok, Err, Result, sym, ap, ◌∙◌, append_assoc, arith, take-append-drop, length-append, ◌-◌}
use Rattle.std.proofs.lemmas.List.{length-take-le, drop-append-le}
use Rattle.line.specs.State.{State}
use Rattle.line.specs.Rules.{bytes_at}
use Rattle.procedures.specs.declared.silence.Silence.{Silence}
use Rattle.procedures.specs.Procedure.{rising}
use Rattle.ports.specs.Calls.{over, buffer_after}

over_part : (bs old part : List ℕ) (n : ℕ) → n ≤ length old → length part ≡ n → part ≡ over bs (take n old) → part ++ drop n old ≡ over bs old
over_part bs old part n h l e =
    let front = take n old in
    let back = drop (length bs) front in
    let long : length front ≡ n = length-take-le n old h in
    let fits : length bs ≤ length front = omega (arith, ap length e, length-append bs back) in
    rw e (append_assoc bs back (drop n old) ∙ ap (λ (xs : List ℕ). bs ++ xs) (sym (drop-append-le (length bs) front (drop n old) fits) ∙ ap (drop (length bs)) (take-append-drop n old)))

pub joined : (a n : ℕ) (old part : List ℕ) (t : State) (r : Result (List ℕ) Silence) → n ≤ length old → length part ≡ n → part ≡ buffer_after a (take n old) t r → part ++ drop n old ≡ buffer_after a old t r
joined a n old part t (Ok bs) h l e = over_part bs old part n h l e
joined a n old part t (Err s) h l e = over_part (bytes_at (rising a (s.address - a)) t.device) old part n h l e
