use Rattle.unit.proofs.Serving.{serves}
use Rattle.unit.proofs.unit.Unit.request.Goals as goal

pub returns : goal.returns
returns g c = serves _ c.in_ok-index.ensures c.request.ensures
