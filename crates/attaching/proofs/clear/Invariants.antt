use Rattle.std.proofs.Common.{◌-◌, replicate}
use Rattle.tca.specs.Fields.{unit_half, data_area}
use Rattle.procedures.specs.Procedure.{rising, writes_row}
use Rattle.procedures.proofs.Steps.{Led}
use Rattle.ports.specs.Sendings.{zeros}
use Rattle.attaching.proofs.clear.Given as goal

-- zeros are left to write from the place on
abbrev pub invariant-loop-place : goal.invariant-loop-place
invariant-loop-place g l =
    Led g.L.Line.step (writes_row (rising unit_half 64) zeros) l.initial.line (writes_row (rising l.place (data_area - l.place)) (replicate (data_area - l.place) 0)) l.line
