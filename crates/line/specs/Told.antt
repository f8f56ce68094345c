-- The state that a telling shows.
use Rattle.std.specs.Prelude.{ℕ, List}
use Rattle.line.specs.State.{Device, State}
use Rattle.line.specs.declared.telling.Registers.{Registers}
use Rattle.line.specs.declared.telling.Telling.{Telling}

-- the device with this memory and these registers, and the line's state
abbrev pub device_with : List ℕ → Registers → Device
device_with m r = record {
  memory = m;
  waiting = r.waiting;
  working = r.working;
  seen = r.seen;
  last = r.last;
  taken = r.taken;
  events = r.events;
  expedited = r.expedited;
}

abbrev pub state_with : List ℕ → Registers → State
state_with m r = record { device = device_with m r; row = r.row }

abbrev pub told : Telling → State
told t = state_with t.memory.now t.registers
