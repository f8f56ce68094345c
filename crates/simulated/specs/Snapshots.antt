-- The state that a snapshot holds, and whether a line may be in it.
use Rattle.std.specs.Prelude.{Bool, cond, not, ◌&&◌, ◌||◌, Some, None, vec_items, vec_len, Option, nat_le}
use Rattle.line.specs.State.{State}
use Rattle.line.specs.Told.{state_with}
use Rattle.simulated.specs.New.{is_new}
use Rattle.simulated.specs.declared.snapshot.Snapshot.{Snapshot}

abbrev pub snapshot_state : Snapshot → State
snapshot_state s = state_with (vec_items s.memory) s.registers

-- 256 to 32,768 bytes; and a device whose restart waits is new
abbrev pub is_lawful : Snapshot → Bool
is_lawful s = nat_le 256 (vec_len s.memory) && (nat_le (vec_len s.memory) 32768 && (not s.registers.waiting || is_new (vec_items s.memory) s.registers))

abbrev pub restored : Snapshot → Option State
restored s = cond (is_lawful s) (Some (snapshot_state s)) None
