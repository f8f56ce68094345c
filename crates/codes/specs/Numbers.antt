-- The number of each refusal and of each ending.
use Rattle.std.specs.Prelude.{ℕ}
use Rattle.codes.specs.declared.number.Refusal.{Refusal}
use Rattle.codes.specs.declared.number.Refusal.TheVariants.{PortTooHigh, EqualTerminals, NotConfigured, Connected, Disconnected, NotIdle, UnknownCode, TerminalOffline, DataOutside, NotMarked, ExpeditedFirst, QueueFull, Malformed}
use Rattle.codes.specs.declared.number.Ending.{Ending}
use Rattle.codes.specs.declared.number.Ending.TheVariants.{Silence, BadToggle, DeviceReset, EventNotAllowed, PermanentError, Dropped, NotWaiting}

abbrev pub refusal_number : Refusal → ℕ
-- brought about by the host
refusal_number PortTooHigh = 1
refusal_number EqualTerminals = 2
refusal_number NotConfigured = 3
refusal_number Connected = 4
refusal_number Disconnected = 5
refusal_number NotIdle = 6
refusal_number UnknownCode = 7
refusal_number TerminalOffline = 8
refusal_number DataOutside = 9
-- by the device
refusal_number NotMarked = 10
refusal_number ExpeditedFirst = 11
-- by the owner of the memory
refusal_number QueueFull = 12
-- by the script
refusal_number Malformed = 13

abbrev pub ending_number : Ending → ℕ
ending_number Silence = 21
ending_number BadToggle = 22
ending_number DeviceReset = 23
ending_number EventNotAllowed = 24
ending_number PermanentError = 25
ending_number Dropped = 26
ending_number NotWaiting = 27
