-- What the terminal line's device does of its own accord: it posts what it was told.
use Rattle.std.specs.Prelude.{ℕ, Bool, cond, ◌&&◌, Some, None, Option}
use Rattle.tca.specs.Fields.{dpastat, dpsstat}
use Rattle.tca.specs.declared.status.Event.{Event}
use Rattle.tca.specs.declared.status.SynchronousStatus.{SynchronousStatus}
use Rattle.line.specs.declared.command.Command.{Command}
use Rattle.line.specs.declared.command.Reply.{Reply}
use Rattle.line.specs.State.{Device, State}
use Rattle.lines.specs.declared.device_line.DeviceLine.{DeviceLine}
use Rattle.lines.specs.declared.terminal.Told.{Told}
use Rattle.lines.specs.DeviceLine.{Own, next as next_of, answers as answers_of, Steps as StepsOf}
use Rattle.simulated.specs.Posts.{free, with_event, with_end}

abbrev pub Terminal : Type 0
Terminal = DeviceLine Told

abbrev pub TerminalOwn : Type 0
TerminalOwn = Own Told

-- nothing told
abbrev pub untold : State → TerminalOwn
untold t = record { state = t; program = record { event = None; end = None } }

-- told an event or an end: the last one counts
abbrev pub with_told_event : Event → TerminalOwn → TerminalOwn
with_told_event e o = record o { program = record (o.program) { event = Some e } }

abbrev pub with_told_end : SynchronousStatus → TerminalOwn → TerminalOwn
with_told_end e o = record o { program = record (o.program) { end = Some e } }

-- What it was told is posted where the device may post it, and is then no longer held.
abbrev pub post_told : {R : Type 0} → (Device → Bool) → (R → Device → Device) → Option R → Device → Device
post_told may posted None d = d
post_told may posted (Some r) d = cond (may d) (posted r d) d

abbrev pub held : {R : Type 0} → (Device → Bool) → Option R → Device → Option R
held may None d = None
held may (Some r) d = cond (may d) None (Some r)

-- an event where no restart waits and DPASTAT is zero, and an end where the same holds of DPSSTAT and the
-- device works
abbrev pub may_event : Device → Bool
may_event d = free dpastat d

abbrev pub may_end : Device → Bool
may_end d = free dpsstat d && d.working

abbrev pub acts : Told → Device → Device
acts told d = post_told may_end with_end told.end (post_told may_event with_event told.event d)

abbrev pub kept : Told → Device → Told
kept told d = record { event = held may_event told.event d; end = held may_end told.end (post_told may_event with_event told.event d) }

-- a request that it takes changes nothing of what it was told
abbrev pub takes : ℕ → Told → Told
takes second told = told

abbrev pub next : Command → TerminalOwn → TerminalOwn
next = next_of acts kept takes

abbrev pub answers : Command → TerminalOwn → Option Reply
answers = answers_of acts kept takes

-- one sending
abbrev pub Steps : Terminal → Command → Option Reply → Terminal → Type 0
Steps = StepsOf acts kept takes
