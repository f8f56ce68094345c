use Rattle.ports.specs.Asked.{configure}
use Rattle.ports.proofs.Frames.{called_at}
use Rattle.unit.proofs.unit.Unit.configure.Goals as goal

pub returns-clause-outcome : goal.returns-clause-outcome
returns-clause-outcome c =
    let u = c.args.self.now in
    λ t. called_at u.attachment (configure c.args.terminals) u.table.ports c.in_ok-index.index c.configure.result _ _ c.in_ok-index.ensures (c.configure.ensures t)
