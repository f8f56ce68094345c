use Rattle.line.proofs.Implied.{rules_keep_what_always_holds}
use Rattle.line.proofs.laws.rules_keep_what_always_holds.Goals as goal

pub returns : goal.returns
returns c = rules_keep_what_always_holds
