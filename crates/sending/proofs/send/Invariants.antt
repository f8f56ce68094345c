use Rattle.procedures.specs.Performs.{Unanswered}
use Rattle.sending.proofs.send.Given as goal

abbrev pub invariant-loop : goal.invariant-loop
invariant-loop g l = Unanswered g.L.Line.step l.command l.initial.line l.counter l.line
