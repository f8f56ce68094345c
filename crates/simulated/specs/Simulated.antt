-- What a simulated device tells.
use Rattle.std.specs.Prelude.{ℕ, Bool, true, false, not, ◌&&◌, [], replicate, vec_items, ◌==◌}
use Rattle.tca.specs.Fields.{cusyn}
use Rattle.line.specs.State.{Device, State, Choice, answered, at}
use Rattle.line.specs.Told.{device_with, state_with}
use Rattle.simulated.specs.declared.device.SimulatedDevice.{SimulatedDevice}

abbrev pub device_of : SimulatedDevice → Device
device_of s = device_with (vec_items s.memory.bytes) s.registers

abbrev pub state_of : SimulatedDevice → State
state_of s = state_with (vec_items s.memory.bytes) s.registers

-- The choice of a line that loses nothing, of a device that does nothing of its own accord and holds zeros
-- after a restart.
abbrev pub obliging : Choice
obliging = record { passage = answered; restarts = false; to_dpastat = 0; to_dpsstat = 0; to_exfak = 0; bytes = [] }

-- a device of n bytes as it is switched on: zeros, and a restart waits
abbrev pub switched_on : ℕ → State
switched_on n = record {
  device = record {
    memory = replicate n 0;
    waiting = true;
    working = false;
    seen = 0;
    last = replicate 8 0;
    taken = 0;
    events = 0;
    expedited = 0;
  };
  row = 0;
}

-- whether a Start would be more than a repeat
abbrev pub sees_request : Device → Bool
sees_request d = not d.waiting && not (at d cusyn == d.seen)
