use Rattle.std.proofs.Common.{arith}
use Rattle.procedures.specs.Performs.{none, more}
use Rattle.procedures.proofs.Steps.{heard, silent}
use Rattle.sending.proofs.send.Goals as goal

pub loop-init : goal.loop-init
loop-init g c = none

pub returns-in-Some : goal.returns-in-Some
returns-in-Some g c = heard c.loop.counter c.loop-test.true c.loop.invariant c.in-Some.ensures

pub loop-preserved : goal.loop-preserved
loop-preserved g c = more c.loop.invariant c.in_default.ensures

pub returns : goal.returns
returns g c = silent c.loop.counter (omega arith) c.loop.invariant c.from.ensures
