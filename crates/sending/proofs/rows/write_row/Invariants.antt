use Rattle.std.specs.Slice.Iter.{iter_rest}
use Rattle.std.specs.Iterator.Adapters.{zip_first, zip_second}
use Rattle.procedures.specs.Procedure.{writes_row}
use Rattle.procedures.proofs.Steps.{Led}
use Rattle.sending.proofs.rows.write_row.Given as goal

-- what is left to write is what the two have left
abbrev pub invariant-loop-place : goal.invariant-loop-place
invariant-loop-place g l =
    Led g.L.Line.step (writes_row l.places l.bytes) l.initial.line (writes_row (iter_rest (zip_first l.place-iterator)) (iter_rest (zip_second l.place-iterator))) l.line
