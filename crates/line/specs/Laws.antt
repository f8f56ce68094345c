-- What the rules imply of every line that keeps them.
use Rattle.std.specs.Prelude.{◌≡◌, Bool, true, false, length, Option}
use Rattle.line.specs.declared.command.Command.{Command}
use Rattle.line.specs.declared.command.Command.TheVariants.{Poll, Read, Write, Start, Acknowledge, TerminalId, Reset}
use Rattle.line.specs.declared.command.Reply.{Reply}
use Rattle.line.specs.State.{Device, State, Choice}
use Rattle.line.specs.Rules.{Permitted, Lawful, effect}

-- what always holds of a line still holds after any permitted sending, lost or not
abbrev pub RulesKeepWhatAlwaysHolds : Type 0
RulesKeepWhatAlwaysHolds = (t u : State) (c : Command) (r : Option Reply) → Lawful t → Permitted t c r u → Lawful u

-- no sending changes the size of the memory
abbrev pub SizeIsFixed : Type 0
SizeIsFixed = (t u : State) (c : Command) (r : Option Reply) → Permitted t c r u → length u.device.memory ≡ length t.device.memory

-- the commands that a unit may send again: all but the two that let the device begin anew or act
abbrev pub repeatable : Command → Bool
repeatable Poll = false
repeatable (Read a) = true
repeatable (Write a v) = true
repeatable Start = true
repeatable Acknowledge = true
repeatable TerminalId = true
repeatable Reset = false

-- Such a command that arrives again does nothing more, whatever was chosen at either time: above all, a
-- Start that is sent again is not taken again.
abbrev pub RepeatedCommandDoesNothingMore : Type 0
RepeatedCommandDoesNothingMore = (c : Command) (ch again : Choice) (d : Device) → repeatable c ≡ true → effect c again (effect c ch d) ≡ effect c ch d
