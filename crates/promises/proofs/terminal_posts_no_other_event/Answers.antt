use Rattle.promises.proofs.Kept.{terminal_posts_no_other_event}
use Rattle.promises.proofs.terminal_posts_no_other_event.Goals as goal

pub returns : goal.returns
returns c = terminal_posts_no_other_event
