-- The sendings that a log stands for.
use Rattle.std.specs.Prelude.{◌≡◌, ℕ, zero, suc, ◌+◌, ◌-◌, ◌^◌, ◌<◌, cond, List, [], ◌∷◌, ◌++◌, length, slice_get, Some, None, vec_items, Option, nat_lt}
use Rattle.std.specs.Option.{option_map}
use Rattle.line.specs.Sent.{Sending}
use Rattle.line.specs.declared.command.Command.{Command}
use Rattle.line.specs.declared.command.Command.TheVariants.{Poll, Read, Write, Start, Acknowledge, TerminalId, Reset}
use Rattle.line.specs.declared.command.Reply.{Reply}
use Rattle.linelog.specs.declared.Log.{Log}
use Rattle.linelog.specs.declared.Run.{Run}

-- A command advances by its address, if it has one.
abbrev pub advance : Command → ℕ → Command
advance Poll n = Poll
advance (Read a) n = Read (a + n)
advance (Write a v) n = Write (a + n) v
advance Start n = Start
advance Acknowledge n = Acknowledge
advance TerminalId n = TerminalId
advance Reset n = Reset

-- the sendings of a run, from its first on
abbrev pub spell_times : Command → Option Reply → ℕ → List Sending
spell_times c r zero = []
spell_times c r (suc n) = spell_times c r n ++ (advance c n, r) ∷ []

abbrev pub once : Command → Option Reply → Run
once c r = record { command = c; reply = r; times = 1 }

abbrev pub once_more : Run → Run
once_more x = record { command = x.command; reply = x.reply; times = x.times + 1 }

abbrev pub spell : Run → List Sending
spell x = spell_times x.command x.reply x.times

abbrev pub spell_all : List Run → List Sending
spell_all [] = []
spell_all (x ∷ xs) = spell x ++ spell_all xs

abbrev pub runs_of : Log → List Run
runs_of log = vec_items log.runs

-- the run that may go on
abbrev pub last_run : Log → Option Run
last_run log = slice_get (runs_of log) (length (runs_of log) - 1)

abbrev pub sendings : Log → List Sending
sendings log = spell_all (runs_of log)

-- an address has 16 bits
abbrev pub further_on : ℕ → ℕ → Option ℕ
further_on a n = cond (nat_lt (a + n) (2 ^ 16)) (Some (a + n)) None

-- the n-th command of a run from this one on, if its address is one
abbrev pub next_from : Command → ℕ → Option Command
next_from Poll n = Some Poll
next_from (Read a) n = option_map Read (further_on a n)
next_from (Write a v) n = option_map (λ b. Write b v) (further_on a n)
next_from Start n = Some Start
next_from Acknowledge n = Some Acknowledge
next_from TerminalId n = Some TerminalId
next_from Reset n = Some Reset

-- the command that goes on with a run, if there is one
abbrev pub next_of : Run → Option Command
next_of x = next_from x.command x.times

-- whether a sending goes on with a run
abbrev pub Continues : Run → Command → Option Reply → Type 0
Continues x c r = (x.times + 1 < 2 ^ 32) × (next_of x ≡ Some c) × (x.reply ≡ r)
