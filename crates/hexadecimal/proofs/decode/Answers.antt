use Rattle.std.proofs.Common.{◌≡◌, get_or, [], Some, sym, refl, ◌∙◌, arith}
use Rattle.hexadecimal.specs.Hex.{pair_byte}
use Rattle.hexadecimal.proofs.Rows.{pair_is_byte, one_more, given}
use Rattle.hexadecimal.proofs.decode.Goals as goal

pub loop-n-preserved : goal.loop-n-preserved
loop-n-preserved c =
    let is_byte = given _ (pair_is_byte _ _ _ _ c.as_chunks.ensures.front (c.is_row.ensures.long c.if-not-is_row.false) (omega arith) (sym c.if-not-is_row.ensures.value)) in
    let here : pair_byte (get_or c.as_chunks.result.0.now c.loop-n.n []) ≡ Some c.byte.result = is_byte ∙ rw (c.byte.ensures _ is_byte) refl in
    one_more _ _ _ _ (omega arith) c.loop-n.invariant here
