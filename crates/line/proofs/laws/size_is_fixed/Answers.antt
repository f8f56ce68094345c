use Rattle.line.proofs.Implied.{size_is_fixed}
use Rattle.line.proofs.laws.size_is_fixed.Goals as goal

pub returns : goal.returns
returns c = size_is_fixed
