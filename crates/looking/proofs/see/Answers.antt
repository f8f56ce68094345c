use Rattle.procedures.proofs.Steps.{◌▸◌, given}
use Rattle.looking.proofs.see.Goals as goal

pub returns-in-Reset : goal.returns-in-Reset
returns-in-Reset g c = let i = c.in-Reset.is in rw i (c.reset.ensures ▸ given)

pub returns-in-Clean : goal.returns-in-Clean
returns-in-Clean g c = let i = c.in-Clean.is in rw i given
