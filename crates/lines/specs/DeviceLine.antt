-- What a simulated device with a program of its own does: its own state after each command, and its answer,
-- as functions of its own state.
use Rattle.std.specs.Prelude.{◌≡◌, ℕ, Bool, cond, not, ◌&&◌, Some, Option, slice_index}
use Rattle.line.specs.declared.command.Command.{Command}
use Rattle.line.specs.declared.command.Command.TheVariants.{Poll, Read, Write, Start, Acknowledge, TerminalId, Reset}
use Rattle.line.specs.declared.command.Reply.{Reply}
use Rattle.line.specs.declared.command.Reply.TheVariants.{Polled}
use Rattle.line.specs.State.{Device, State}
use Rattle.line.specs.Rules.{after, answer, says}
use Rattle.lines.specs.declared.device_line.DeviceLine.{DeviceLine}
use Rattle.simulated.specs.Simulated.{state_of, obliging}

-- what the line tells, and the program
pub record Own (P : Type 0) : Type 0 where
  pub state : State
  pub program : P

abbrev pub own : {P : Type 0} → DeviceLine P → Own P
own s = record { state = state_of s.device; program = s.program }

-- whether a Start makes the device take a request
abbrev pub is_taken : State → Bool
is_taken t = not t.device.working && (after Start obliging t).device.working

module _ {P : Type 0} (acts : P → Device → Device) (kept : P → Device → P) (takes : ℕ → P → P) where
  -- a Poll lets the program act
  abbrev pub polled : Own P → Own P
  polled o = record { state = record { device = acts o.program o.state.device; row = 0 }; program = kept o.program o.state.device }

  -- every other command: answered if it may be, and zeros in memory after a restart
  abbrev pub served : Command → Own P → Own P
  served c o = record o { state = after c obliging o.state }

  -- the program hears of a request that is taken by its second parameter
  abbrev pub started : Own P → Own P
  started o = record (served Start o) { program = cond (is_taken o.state) (takes (slice_index (after Start obliging o.state).device.last 2) o.program) o.program }

  abbrev pub next : Command → Own P → Own P
  next Poll o = polled o
  next (Read a) o = served (Read a) o
  next (Write a v) o = served (Write a v) o
  next Start o = started o
  next Acknowledge o = served Acknowledge o
  next TerminalId o = served TerminalId o
  next Reset o = served Reset o

  abbrev pub answers : Command → Own P → Option Reply
  answers Poll o = Some (Polled (says (polled o).state.device))
  answers (Read a) o = answer (Read a) obliging o.state
  answers (Write a v) o = answer (Write a v) obliging o.state
  answers Start o = answer Start obliging o.state
  answers Acknowledge o = answer Acknowledge obliging o.state
  answers TerminalId o = answer TerminalId obliging o.state
  answers Reset o = answer Reset obliging o.state

  -- one sending
  abbrev pub Steps : DeviceLine P → Command → Option Reply → DeviceLine P → Type 0
  Steps s c r t = (own t ≡ next c (own s)) × (r ≡ answers c (own s))
