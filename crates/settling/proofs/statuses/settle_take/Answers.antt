use Rattle.std.proofs.Common.{◌≡◌, Ok, Err, Result}
use Rattle.tca.specs.declared.status.Event.{Event}
use Rattle.procedures.specs.declared.silence.Silence.{Silence}
use Rattle.ports.specs.declared.port.Port.{Port}
use Rattle.ports.specs.declared.answers.Failure.{Failure}
use Rattle.settling.specs.Settled.{found}
use Rattle.settling.proofs.statuses.settle_take.Goals as goal

-- what was found is what was read
heard : (k : Port) (read : Result Event Silence) (event : Event) → ◌≡◌ {A = Result Event Failure} (Ok event) (found k read) → read ≡ Ok event
heard k (Ok x) event h = cc
heard k (Err e) event h = cc

pub returns-clause-value : goal.returns-clause-value
returns-clause-value c =
    let e = heard c.args.port.now c.args.read c.in_ok-event.event c.in_ok-event.ensures.value in
    rw e (rw c.in_ok-event.ensures.after at c.settle_event.ensures.value)
