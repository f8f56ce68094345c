-- The law is a lemma of its own.
use Rattle.counts.proofs.Holds.{counts_agree}
use Rattle.counts.proofs.counts_are_equal_exactly_when_nothing_is_owed.Goals as goal

pub returns : goal.returns
returns c = counts_agree
