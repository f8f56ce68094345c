-- The part that all calls on a connected port share.
use Rattle.std.specs.Prelude.{Ok, Err, Result, if◌then◌else◌}
use Rattle.std.specs.Option.{option_map_or}
use Rattle.codes.specs.declared.number.Refusal.{Refusal}
use Rattle.codes.specs.declared.number.Refusal.TheVariants.{NotConfigured, Disconnected}
use Rattle.ports.specs.declared.port.Connection.{Connection}
use Rattle.ports.specs.declared.port.Port.{Port}
use Rattle.ports.specs.Terminals.{none_configured}

-- a port's connection, or the reason why there is none
abbrev pub connection_of : Port → Result Connection Refusal
connection_of k = if none_configured k.terminals then Err NotConfigured else option_map_or Ok k.connection (Err Disconnected)
