use Rattle.std.proofs.Common.{◌+◌, ◌≤◌, length}
use Rattle.std.specs.Slice.Iter.{iter_rest}
use Rattle.std.specs.Iterator.Adapters.{zip_first, zip_second}
use Rattle.procedures.specs.Procedure.{rising, writes_row}
use Rattle.procedures.proofs.Steps.{Led}
use Rattle.requesting.proofs.write_data.Given as goal

-- what is left to write is what is left of the data, from the next place on
abbrev pub invariant-loop-place : goal.invariant-loop-place
invariant-loop-place g l =
    let place = (zip_first l.place-iterator).start in
    let left = iter_rest (zip_second l.place-iterator) in
    (place + length left ≤ 65535) × Led g.L.Line.step (writes_row (rising l.address (length l.«data»)) l.«data») l.initial.line (writes_row (rising place (length left)) left) l.line
