use Rattle.promises.proofs.Kept.{terminal_posts_the_end_it_was_told}
use Rattle.promises.proofs.terminal_posts_the_end_it_was_told.Goals as goal

pub returns : goal.returns
returns c = terminal_posts_the_end_it_was_told
