-- Memory of zeros is what a restart with no bytes chosen leaves.
use Rattle.std.proofs.Common.{◌≡◌, ℕ, ◌<◌, Bool, true, false, cond, List, [], length, get_or, replicate, sym, refl, ◌∙◌}
use Rattle.std.proofs.lemmas.List.{ext_get_or, get_or-replicate, length-replicate}
use Rattle.line.specs.Rules.{remake, is_toggle}
use Rattle.line.proofs.Memory.{remake_length, remake_at}

zero_either : (b : Bool) → ◌≡◌ {A = ℕ} (cond b 0 0) 0
zero_either true = refl
zero_either false = refl

pub zeros_remade : (m : List ℕ) → replicate (length m) 0 ≡ remake (λ a x. cond (is_toggle a) 0 (get_or [] a 0)) m
zeros_remade m =
    let f : ℕ → ℕ → ℕ = λ a x. cond (is_toggle a) 0 (get_or [] a 0) in
    let n = remake_length f m in
    ext_get_or 0 (replicate (length m) 0) (remake f m) (length-replicate (length m) 0 ∙ sym n)
    (λ k h. let l : k < length m = rw length-replicate at h in get_or-replicate (length m) k 0 0 l ∙ sym (remake_at f m k l ∙ zero_either (is_toggle k)))
