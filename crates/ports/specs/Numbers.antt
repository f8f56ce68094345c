-- The number of each answer, case by case.
use Rattle.std.specs.Prelude.{ℕ}
use Rattle.std.specs.Option.{option_map_or}
use Rattle.codes.specs.Numbers.{refusal_number, ending_number}
use Rattle.ports.specs.declared.disconnection.Disconnection.{Disconnection}
use Rattle.ports.specs.declared.answers.Handed.{Handed}
use Rattle.ports.specs.declared.answers.Failure.{Failure}
use Rattle.ports.specs.declared.answers.Failure.TheVariants.{Refused, Disconnected}
use Rattle.ports.specs.declared.answers.AttachFailure.{AttachFailure}
use Rattle.ports.specs.declared.answers.AttachFailure.TheVariants.{Refused as NotTried, NotWaiting, Disconnected as BrokenOff}

-- what was asked was done, whatever is handed back
abbrev pub number_done : {A : Type 0} → A → ℕ
number_done a = 0

-- a disconnection: that of its cause
abbrev pub number_told : Disconnection → ℕ
number_told d = ending_number d.cause

-- done, and the port may be disconnected after it
abbrev pub number_handed : Handed → ℕ
number_handed h = option_map_or number_told h.disconnection 0

abbrev pub number_failed : Failure → ℕ
number_failed (Refused n) = refusal_number n
number_failed (Disconnected d) = number_told d

abbrev pub number_not_attached : AttachFailure → ℕ
number_not_attached (NotTried n) = refusal_number n
number_not_attached NotWaiting = 27
number_not_attached (BrokenOff d) = number_told d
