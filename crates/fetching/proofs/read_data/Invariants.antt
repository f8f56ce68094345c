use Rattle.std.proofs.Common.{length}
use Rattle.fetching.proofs.Front.{Front}
use Rattle.fetching.proofs.read_data.Given as goal

abbrev pub invariant-loop-i : goal.invariant-loop-i
invariant-loop-i g l = Front g.L.Line.step g.L.Line.state l.address (length l.initial.buffer) l.initial.buffer l.initial.line l.i l.buffer l.line
