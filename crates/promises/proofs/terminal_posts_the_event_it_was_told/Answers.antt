use Rattle.promises.proofs.Kept.{terminal-posts-the-event-it-was-told}
use Rattle.promises.proofs.terminal_posts_the_event_it_was_told.Goals as goal

pub returns : goal.returns
returns c = terminal-posts-the-event-it-was-told
