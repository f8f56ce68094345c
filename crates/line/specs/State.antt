-- What a line tells of itself, and where the coax and the device have a choice.
use Rattle.std.specs.Prelude.{ℕ, Bool, List, slice_index}

-- The device: its memory, byte by byte; whether a restart waits; whether it works on a request; the CUSYN
-- value that it saw last; the eight bytes of the request that it took last; and since the restart how many
-- requests it took and how many asynchronous and expedited statuses it posted, each count modulo 2^32.
pub record Device : Type 0 where
  pub memory : List ℕ
  pub waiting : Bool
  pub working : Bool
  pub seen : ℕ
  pub last : List ℕ
  pub taken : ℕ
  pub events : ℕ
  pub expedited : ℕ

-- The line: its device, and the row, how many commands in a row went unanswered, held at 255.
pub record State : Type 0 where
  pub device : Device
  pub row : ℕ

-- What became of one sending: the command arrived and its answer came back; it never arrived; or it
-- arrived and its answer was lost.
pub data Passage : Type 0 where
  answered : Passage
  unheard : Passage
  unanswered : Passage

-- Everything that the rules leave open in one sending. The device's own program chooses within a Poll: to
-- restart; the value that it sets each toggle to, where 0 stands for no post; and the byte that it puts at
-- each address where it may put one. After any restart, memory holds the bytes chosen here.
pub record Choice : Type 0 where
  pub passage : Passage
  pub restarts : Bool
  pub to_dpastat : ℕ
  pub to_dpsstat : ℕ
  pub to_exfak : ℕ
  pub bytes : List ℕ

-- the byte at an address
abbrev pub at : Device → ℕ → ℕ
at d a = slice_index d.memory a
