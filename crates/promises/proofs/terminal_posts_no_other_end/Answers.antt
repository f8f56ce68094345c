use Rattle.promises.proofs.Kept.{terminal_posts_no_other_end}
use Rattle.promises.proofs.terminal_posts_no_other_end.Goals as goal

pub returns : goal.returns
returns c = terminal_posts_no_other_end
