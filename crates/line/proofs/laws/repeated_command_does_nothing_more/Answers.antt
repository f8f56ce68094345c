use Rattle.line.proofs.Implied.{repeated_command_does_nothing_more}
use Rattle.line.proofs.laws.repeated_command_does_nothing_more.Goals as goal

pub returns : goal.returns
returns c = repeated_command_does_nothing_more
