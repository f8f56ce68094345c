use Rattle.std.proofs.Common.{inl, inr}
use Rattle.procedures.proofs.Steps.{◌▸◌, given, stops}
use Rattle.sending.proofs.read.Goals as goal

pub returns-in_err-byte : goal.returns-in_err-byte
returns-in_err-byte g c = stops _ c.from_residual.ensures.1 c.in_err-byte.ensures

pub returns-in-Byte : goal.returns-in-Byte
returns-in-Byte g c = let byte = c.in-Byte.is in rw byte at c.in_ok-byte.ensures ▸ given

pub returns-in-Done : goal.returns-in-Done
returns-in-Done g c = elim c.in-Done.is [ inl i ↦ rw i at c.in_ok-byte.ensures ▸ given | inr (p, i) ↦ rw i at c.in_ok-byte.ensures ▸ given ]
