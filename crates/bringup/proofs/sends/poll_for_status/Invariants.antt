use Rattle.std.proofs.Common.{◌≡◌, false, List, length, Option}
use Rattle.line.specs.declared.command.Reply.{Reply}
use Rattle.linelog.specs.Runs.{sendings}
use Rattle.bringup.specs.Went.{Went, polls, any_status}
use Rattle.bringup.proofs.sends.poll_for_status.Given as goal

-- so many polls went, and none said status
abbrev pub invariant-loop : goal.invariant-loop
invariant-loop g l =
    Went g.L.Line.step l.initial.line (sendings l.initial.log) l.line (sendings l.log)
    (λ zs. (rs : List (Option Reply)) × (zs ≡ polls rs) × (any_status rs ≡ false) × (length rs ≡ l.counter))
