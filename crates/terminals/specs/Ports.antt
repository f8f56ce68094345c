-- What a port's record says of its terminals.
use Rattle.ports.specs.declared.port.Port.{Port}
use Rattle.ports.specs.Port.{online}
use Rattle.terminals.specs.declared.Terminals.{Terminals}

abbrev pub terminals_of : Port → Terminals
terminals_of k = record { addresses = k.terminals; online = online k.connection }
