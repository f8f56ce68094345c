use Rattle.std.proofs.Common.{inl, inr}
use Rattle.procedures.proofs.Steps.{◌▸◌, given, stops}
use Rattle.attaching.proofs.attach_by.Goals as goal

pub returns-in_err-set_up-in-Reset : goal.returns-in_err-set_up-in-Reset
returns-in_err-set_up-in-Reset g c = let i = c.in-Reset.is in rw i (stops _ c.from_residual.ensures.1 c.in_err-set_up-in-Reset.ensures)

pub returns-in_ok-set_up-in-Reset : goal.returns-in_ok-set_up-in-Reset
returns-in_ok-set_up-in-Reset g c = let i = c.in-Reset.is in rw i (c.in_ok-set_up-in-Reset.ensures ▸ given)

pub returns-in-Status : goal.returns-in-Status
returns-in-Status g c = elim c.in-Status.is [ inl i ↦ rw i (c.reset.ensures ▸ given) | inr i ↦ rw i (c.reset.ensures ▸ given) ]
