use Rattle.std.proofs.Common.{◌≡◌, length, vec_items}
use Rattle.linelog.specs.Runs.{sendings}
use Rattle.bringup.specs.Went.{Went, reads}
use Rattle.bringup.proofs.sends.read_record.Given as goal

-- the first places were read, and gave the bytes so far
abbrev pub invariant-loop-place : goal.invariant-loop-place
invariant-loop-place g l =
    Went g.L.Line.step l.initial.line (sendings l.initial.log) l.line (sendings l.log)
    (λ zs. (zs ≡ reads g.F.Family.places (vec_items l.bytes)) × (length (vec_items l.bytes) ≡ l.place-index))
