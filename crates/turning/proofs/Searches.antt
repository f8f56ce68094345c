-- What a search through the numbered ports finds is the lowest.
use Rattle.std.proofs.Common.{◌≡◌, ℕ, ◌+◌, Bool, List, [], ◌∷◌, length, Option, refl, arith, add-one}
use Rattle.std.specs.Option.{option_map}
use Rattle.std.specs.List.{find, zip, range_with_len}
use Rattle.std.specs.Fn.{Shared}
use denote.Ref.{Bor}
use Rattle.turning.specs.Wanted.{FindsLowest, Tests}
use Rattle.ports.specs.declared.port.Port.{Port}
use Rattle.ports.specs.Turn.{lowest}

pub find_lowest : (f : ℕ → Port → Bool) (n : ℕ) (ks : List Port) → option_map (λ p. p.0) (find (λ p. f p.0 p.1) (zip (range_with_len n (length ks)) ks)) ≡ lowest f n ks
find_lowest f n [] = refl
find_lowest f n (k ∷ ks) = rw (← add-one n, ← find_lowest f (n + 1) ks) (grind arith)

pub found_lowest : {F : Type 0} {g : Shared F (ℕ × (Bor Port × Unit {0})) Bool} {f : F} {ks : List Port} {r : Option ℕ} (wants : ℕ → Port → Bool) → FindsLowest g f ks r → Tests g f wants → r ≡ lowest wants 0 ks
found_lowest wants found t = found.by wants t
