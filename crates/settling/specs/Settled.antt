-- What a port's disconnection tells, and what a call makes of what came back from the line.
use Rattle.std.specs.Prelude.{ℕ, Option, Result}
use Rattle.std.specs.Result.{result_map_both}
use Rattle.codes.specs.declared.number.Ending.{Ending}
use Rattle.procedures.specs.declared.silence.CommandKind.{CommandKind}
use Rattle.procedures.specs.declared.silence.Silence.{Silence}
use Rattle.ports.specs.declared.port.Port.{Port}
use Rattle.ports.specs.declared.disconnection.Disconnection.{Disconnection}
use Rattle.ports.specs.declared.answers.Failure.{Failure}
use Rattle.ports.specs.Port.{held}
use Rattle.ports.specs.Calls.{silent}

abbrev pub left_by : Ending → Option (CommandKind × ℕ) → Port → Disconnection
left_by n last k = record { cause = n; last = last; lost = held k.connection }

abbrev pub found : {A : Type 0} → Port → Result A Silence → Result A Failure
found k = result_map_both (λ x. x) (silent k)
