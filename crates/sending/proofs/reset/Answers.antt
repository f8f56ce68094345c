use Rattle.line.specs.Rules.{done}
use Rattle.procedures.proofs.Steps.{passes}
use Rattle.sending.proofs.reset.Goals as goal

pub returns : goal.returns
returns g c = passes (done c.reset.result) c.reset.ensures
