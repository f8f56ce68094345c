use Rattle.std.proofs.Common.{refl}
use Rattle.std.proofs.lemmas.Slice.Zip.{Zip-more, either_empty_from_Zip}
use Rattle.procedures.proofs.Steps.{row_more, row_broken, row_done}
use Rattle.sending.proofs.rows.write_row.Goals as goal

pub loop-place-preserved : goal.loop-place-preserved
loop-place-preserved g c =
    let left = Zip-more c.loop-place.place-iterator c.next.new.self _ (c.in-Some.place, c.in-Some.byte) refl c.in-Some.ensures.steps in
    row_more _ _ _ _ left.0 left.1 c.loop-place.invariant c.in_ok-write.ensures

pub returns-in_err-write : goal.returns-in_err-write
returns-in_err-write g c =
    let left = Zip-more c.loop-place.place-iterator c.next.new.self _ (c.in-Some.place, c.in-Some.byte) refl c.in-Some.ensures.steps in
    row_broken _ _ _ _ _ c.from_residual.ensures.1 left.0 left.1 c.loop-place.invariant c.in_err-write.ensures

pub returns : goal.returns
returns g c = row_done _ _ _ (either_empty_from_Zip c.loop-place.place-iterator c.next.new.self _ refl c.in-None.ensures.steps) c.loop-place.invariant
