use Rattle.std.proofs.Common.{◌≡◌, true, take}
use Rattle.linelog.specs.Runs.{sendings}
use Rattle.bringup.specs.Went.{Went, commands_of, all_answered}
use Rattle.bringup.proofs.sends.run.Given as goal

-- the first commands went, and all were answered
abbrev pub invariant-loop-command : goal.invariant-loop-command
invariant-loop-command g l =
    Went g.L.Line.step l.initial.line (sendings l.initial.log) l.line (sendings l.log)
    (λ zs. (commands_of zs ≡ take l.command-index l.commands) × (all_answered zs ≡ true))
