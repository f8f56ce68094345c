use Rattle.std.proofs.Common.{◌≡◌, length, take}
use Rattle.procedures.proofs.Steps.{Reading}
use Rattle.sending.proofs.rows.read_status.Given as goal

-- the front of the bytes was read
abbrev pub invariant-loop-i : goal.invariant-loop-i
invariant-loop-i g l = (length l.bytes ≡ g.row.N) × Reading g.L.Line.step g.F.Family.places l.initial.line l.i (take l.i l.bytes) l.line
