use Rattle.std.proofs.Common.{[], refl}
use Rattle.bringup.proofs.Wents.{went_none, went_more, polled_more, polled_status}
use Rattle.bringup.proofs.sends.poll_for_status.Goals as goal

pub loop-init : goal.loop-init
loop-init g c = went_none ([], refl, refl, refl)

pub returns-then-is_status : goal.returns-then-is_status
returns-then-is_status g c =
    went_more c.loop.invariant c.in_ok-send.ensures (polled_status c.loop.counter _ c.loop-test.true c.if-is_status.ensures)

pub loop-preserved : goal.loop-preserved
loop-preserved g c = went_more c.loop.invariant c.in_ok-send.ensures (polled_more c.loop.counter _ c.if-is_status.ensures)
