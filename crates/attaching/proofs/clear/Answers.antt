use Rattle.std.proofs.Common.{inl, arith}
use Rattle.procedures.proofs.Rows.{rising_next, none_rising}
use Rattle.procedures.proofs.Steps.{row_more, row_broken, row_done}
use Rattle.ports.specs.Sendings.{zeros}
use Rattle.attaching.proofs.Clears.{zeros_next}
use Rattle.attaching.proofs.clear.Goals as goal

pub loop-place-init : goal.loop-place-init
unfolding zeros
loop-place-init g c = λ r t u. u

pub returns-in_err-write : goal.returns-in_err-write
returns-in_err-write g c =
    row_broken _ _ _ _ _ c.from_residual.ensures.1 (rising_next c.loop-place.place 128 c.loop-place-test.true) (zeros_next c.loop-place.place 128 c.loop-place-test.true) c.loop-place.invariant c.in_err-write.ensures

pub loop-place-preserved : goal.loop-place-preserved
loop-place-preserved g c =
    row_more _ _ _ _ (rising_next c.loop-place.place 128 c.loop-place-test.true) (zeros_next c.loop-place.place 128 c.loop-place-test.true) c.loop-place.invariant c.in_ok-write.ensures

pub returns : goal.returns
returns g c = row_done _ _ _ (inl (none_rising c.loop-place.place 128 (omega arith))) c.loop-place.invariant
