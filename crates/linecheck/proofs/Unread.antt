-- A text whose second line is no status is no script.
use Rattle.std.proofs.Common.{◌≡◌, ℕ, ◌-◌, Bool, true, false, cond, ◌&&◌, List, length, get_or, eqb, take, drop, Some, None, Option, refl, arith, length-drop}
use Rattle.std.proofs.lemmas.Bool.{eqb-true, false≢true}
use Rattle.std.proofs.lemmas.List.{drop-drop}
use Rattle.hexadecimal.specs.Hex.{row_in}
use Rattle.linecheck.specs.Read.{laid_out, script_of, script_in}

no_script : (b : Bool) (ts end : Option (List ℕ)) → (b ≡ true → end ≡ None) → cond b (script_of ts end) None ≡ None
no_script true None end h = refl
no_script true (Some ts) end h = rw (h refl) refl
no_script false ts end h = refl

first : (a b : Bool) → (a && b) ≡ true → a ≡ true
first true b e = refl
first false b e = absurd (false≢true e)

same_rest : (xs : List ℕ) → length xs ≡ 19 → take (length (drop 10 xs) - 1) (drop 1 (drop 10 xs)) ≡ take 8 (drop 11 xs)
same_rest xs n =
    let k : length (drop 10 xs) - 1 ≡ 8 = omega (arith, length-drop 10 xs) in
    rw (k, drop-drop 1 10 xs) refl

pub no_status : (xs back : List ℕ) → back ≡ drop 10 xs → row_in 4 (take (length back - 1) (drop 1 back)) ≡ None → script_in xs ≡ None
no_status xs back e none =
    no_script (laid_out xs) (row_in 5 (take 10 xs)) (row_in 4 (take 8 (drop 11 xs)))
    (λ laid.
    let n = eqb-true (length xs) 19 (first (eqb (length xs) 19) (eqb (get_or xs 10 0) 10) laid) in
    rw (← same_rest xs n) (rw e at none))
