-- What is told of a command that went unanswered.
use Rattle.std.specs.Prelude.{ℕ}
use Rattle.line.specs.declared.command.Command.{Command}
use Rattle.line.specs.declared.command.Command.TheVariants.{Poll, Read, Write, Start, Acknowledge, TerminalId, Reset}
use Rattle.procedures.specs.declared.silence.CommandKind.{CommandKind}
use Rattle.procedures.specs.declared.silence.CommandKind.TheVariants.{Poll as APoll, Read as ARead, Write as AWrite, Start as AStart, Acknowledge as AnAcknowledge, TerminalId as ATerminalId, Reset as AReset}
use Rattle.procedures.specs.declared.silence.Silence.{Silence}

abbrev pub silent : CommandKind → ℕ → Silence
silent k a = record { command = k; address = a }

abbrev pub silence_of : Command → Silence
silence_of Poll = silent APoll 0
silence_of (Read a) = silent ARead a
silence_of (Write a v) = silent AWrite a
silence_of Start = silent AStart 0
silence_of Acknowledge = silent AnAcknowledge 0
silence_of TerminalId = silent ATerminalId 0
silence_of Reset = silent AReset 0
