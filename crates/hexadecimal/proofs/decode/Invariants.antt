use Rattle.std.proofs.Common.{◌≡◌, ℕ, ◌<◌, [], get_or, Some}
use Rattle.hexadecimal.specs.Hex.{pair_byte}
use Rattle.hexadecimal.proofs.decode.Given as goal

-- each place below n is filled
abbrev pub invariant-loop-n : goal.invariant-loop-n
invariant-loop-n l = (k : ℕ) → k < l.n → pair_byte (get_or l.pairs k []) ≡ Some (get_or l.bytes k 0)
