use Rattle.std.proofs.Common.{refl}
use Rattle.bringup.proofs.Wents.{went_none, went_on, went_so, ran_more, ran_stops, ran_all}
use Rattle.bringup.proofs.sends.run.Goals as goal

pub loop-command-init : goal.loop-command-init
loop-command-init g c = went_none (refl, refl)

pub returns-then-not-answered : goal.returns-then-not-answered
returns-then-not-answered g c =
    went_on c.loop-command.invariant c.in_ok-answered.ensures c.if-not-answered.true
    (ran_stops c.args.commands.now c.loop-command.command-index _ c.loop-command-test.true)

pub loop-command-preserved : goal.loop-command-preserved
loop-command-preserved g c =
    went_on c.loop-command.invariant c.in_ok-answered.ensures c.if-not-answered.false
    (ran_more c.args.commands.now c.loop-command.command-index _ c.loop-command-test.true)

pub returns : goal.returns
returns g c = went_so c.loop-command.invariant (ran_all c.args.commands.now c.loop-command.command-index c.loop-command-test.false)
