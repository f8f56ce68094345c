-- The rules of a line: what each command does, when it is answered, and with what.
use Rattle.std.specs.Prelude.{◌≡◌, ℕ, suc, ◌+◌, ◌%◌, ◌^◌, ◌<◌, ◌≤◌, min, Bool, true, false, cond, not, ◌&&◌, ◌||◌, List, [], ◌∷◌, length, Some, None, Option, ◌==◌, nat_le, nat_lt, slice_index, slice_set}
use Rattle.tca.specs.Fields.{dpastat, dpsstat, exfak, cusyn, request_places, synchronous_places, event_places, expedited_places, response_places, unit_half, data_area}
use Rattle.line.specs.declared.command.Command.{Command}
use Rattle.line.specs.declared.command.Command.TheVariants.{Poll, Read, Write, Start, Acknowledge, TerminalId, Reset}
use Rattle.line.specs.declared.command.PollAnswer.{PollAnswer}
use Rattle.line.specs.declared.command.PollAnswer.TheVariants.{Reset as RestartWaits, Status, Clean}
use Rattle.line.specs.declared.command.Reply.{Reply}
use Rattle.line.specs.declared.command.Reply.TheVariants.{Done, Byte, Polled}
use Rattle.line.specs.State.{Device, State, Passage, answered, unheard, unanswered, Choice, at}

abbrev pub is_in : List ℕ → ℕ → Bool
is_in [] a = false
is_in (p ∷ ps) a = cond (a == p) true (is_in ps a)

-- the three status toggles; CUSYN is none of them
abbrev pub is_toggle : ℕ → Bool
is_toggle a = is_in (dpastat ∷ dpsstat ∷ exfak ∷ []) a

-- memory with each byte made anew from its address and its old value
abbrev pub remake_from : ℕ → (ℕ → ℕ → ℕ) → List ℕ → List ℕ
remake_from i f [] = []
remake_from i f (x ∷ xs) = f i x ∷ remake_from (suc i) f xs

unfoldable pub remake : (ℕ → ℕ → ℕ) → List ℕ → List ℕ
remake f xs = remake_from 0 f xs

-- A restart makes a restart wait. Counts, working, toggles and the value seen are then zero, the request
-- taken last stays, and the rest of memory may hold anything.
abbrev pub restarted : Choice → Device → Device
restarted ch d = record d {
  memory = remake (λ a x. cond (is_toggle a) 0 (slice_index ch.bytes a)) d.memory;
  waiting = true;
  working = false;
  seen = 0;
  taken = 0;
  events = 0;
  expedited = 0;
}

-- A status is posted over a toggle that is zero, by another value, and never while a restart waits; the end
-- of a request is posted only by a device that works.
abbrev pub posts : Bool → ℕ → ℕ → Bool
posts ready toggle value = ready && (toggle == 0 && not (value == 0))

abbrev pub posts_event : Choice → Device → Bool
posts_event ch d = posts (not d.waiting) (at d dpastat) ch.to_dpastat

abbrev pub posts_end : Choice → Device → Bool
posts_end ch d = posts (not d.waiting && d.working) (at d dpsstat) ch.to_dpsstat

abbrev pub posts_expedited : Choice → Device → Bool
posts_expedited ch d = posts (not d.waiting) (at d exfak) ch.to_exfak

-- The byte at an address after the device's program acted, by which statuses it posts: a toggle and its
-- record change only by a post, other bytes of the device's half as it likes, the unit's half not at all
-- (but for the expedited record's bytes there), and the data area only while it works.
abbrev pub byte_after : Bool → Bool → Bool → Choice → Device → ℕ → ℕ → ℕ
byte_after event end expedited ch d a x =
    cond (a == dpastat) (cond event ch.to_dpastat x)
    (cond (a == dpsstat) (cond end ch.to_dpsstat x)
    (cond (a == exfak) (cond expedited ch.to_exfak x)
    (cond (is_in event_places a) (cond event (slice_index ch.bytes a) x)
    (cond (is_in synchronous_places a) (cond end (slice_index ch.bytes a) x)
    (cond (is_in expedited_places a) (cond expedited (slice_index ch.bytes a) x)
    (cond (nat_lt a unit_half) (slice_index ch.bytes a)
    (cond (nat_lt a data_area) x
    (cond d.working (slice_index ch.bytes a) x))))))))

-- a post of X'01' is counted, another value is not
abbrev pub counted : Bool → ℕ → ℕ → ℕ
counted posted value n = cond (posted && value == 1) ((n + 1) % 2 ^ 32) n

abbrev pub ran : Choice → Device → Device
ran ch d = record d {
  memory = remake (byte_after (posts_event ch d) (posts_end ch d) (posts_expedited ch d) ch d) d.memory;
  working = cond (posts_end ch d) false d.working;
  events = counted (posts_event ch d) ch.to_dpastat d.events;
  expedited = counted (posts_expedited ch d) ch.to_exfak d.expedited;
}

-- what the device's own program does within a Poll
unfoldable pub act : Choice → Device → Device
act ch d = cond ch.restarts (restarted ch d) (ran ch d)

-- the bytes at a row of addresses
abbrev pub bytes_at : List ℕ → Device → List ℕ
bytes_at [] d = []
bytes_at (p ∷ ps) d = at d p ∷ bytes_at ps d

-- the device takes the request that stands in its memory, and notes CUSYN
abbrev pub took : Device → Device
took d = record d {
  working = true;
  seen = at d cusyn;
  last = bytes_at request_places d;
  taken = (d.taken + 1) % 2 ^ 32;
}

-- Start does nothing if a restart waits or CUSYN equals the value seen; else a working device restarts and
-- another takes the request.
abbrev pub start_by : Bool → Bool → Bool → Choice → Device → Device
start_by waits same works ch d = cond waits d (cond same d (cond works (restarted ch d) (took d)))

unfoldable pub started : Choice → Device → Device
started ch d = start_by d.waiting (at d cusyn == d.seen) d.working ch d

-- A Write is heard in the unit's half and in the data area below the end of memory; in the device's half
-- only a zero to a toggle is, or a byte to one of the expedited response fields.
abbrev pub may_write : ℕ → ℕ → ℕ → Bool
may_write size a v = nat_lt a size && (nat_le unit_half a || ((is_toggle a && v == 0) || is_in response_places a))

abbrev pub written : ℕ → ℕ → Device → Device
written a v d = record d { memory = slice_set d.memory a v }

abbrev pub acknowledged : Device → Device
acknowledged d = record d { waiting = false }

-- what a command that arrives makes of the device
abbrev pub effect : Command → Choice → Device → Device
effect Poll ch d = act ch d
effect (Read a) ch d = d
effect (Write a v) ch d = written a v d
effect Start ch d = started ch d
effect Acknowledge ch d = acknowledged d
effect TerminalId ch d = d
effect Reset ch d = restarted ch d

-- whether a command may arrive at all: a Read or a Write outside what is heard never does
abbrev pub hears : Command → Device → Bool
hears Poll d = true
hears (Read a) d = nat_lt a (length d.memory)
hears (Write a v) d = may_write (length d.memory) a v
hears Start d = true
hears Acknowledge d = true
hears TerminalId d = true
hears Reset d = true

-- what an answered Poll says, after the device's program acted
abbrev pub says : Device → PollAnswer
says d = cond d.waiting RestartWaits (cond (at d dpastat == 0 && (at d dpsstat == 0 && at d exfak == 0)) Clean Status)

-- the answer to a command, from the device after its effect
abbrev pub reply : Command → Device → Reply
reply Poll d = Polled (says d)
reply (Read a) d = Byte (at d a)
reply (Write a v) d = Done
reply Start d = Done
reply Acknowledge d = Done
reply TerminalId d = Done
reply Reset d = Done

-- what becomes of a sending: what the coax chose, but where the command is never heard
abbrev pub fate : Command → Choice → Device → Passage
fate c ch d = cond (hears c d) ch.passage unheard

abbrev pub device_after : Passage → Command → Choice → Device → Device
device_after answered c ch d = effect c ch d
device_after unheard c ch d = d
device_after unanswered c ch d = effect c ch d

abbrev pub row_after : Passage → ℕ → ℕ
row_after answered n = 0
row_after unheard n = min 255 (n + 1)
row_after unanswered n = min 255 (n + 1)

abbrev pub answer_by : Passage → Reply → Option Reply
answer_by answered y = Some y
answer_by unheard y = None
answer_by unanswered y = None

-- What the line tells after one sending, and what comes back: functions of what it told before and of the
-- choice.
abbrev pub after : Command → Choice → State → State
after c ch t = record {
  device = device_after (fate c ch t.device) c ch t.device;
  row = row_after (fate c ch t.device) t.row;
}

abbrev pub answer : Command → Choice → State → Option Reply
answer c ch t = answer_by (fate c ch t.device) (reply c (effect c ch t.device))

-- a sending that keeps the rules
abbrev pub Permitted : State → Command → Option Reply → State → Type 0
Permitted t c r u = (ch : Choice) × (u ≡ after c ch t) × (r ≡ answer c ch t)

-- While a restart waits, the counts are 0, the device isn't working, and toggles and value seen are zero.
pub record New (d : Device) : Type 0 where
  pub not_working : d.working ≡ false
  pub none_seen : d.seen ≡ 0
  pub none_taken : d.taken ≡ 0
  pub no_events : d.events ≡ 0
  pub no_expedited : d.expedited ≡ 0
  pub dpastat_zero : at d dpastat ≡ 0
  pub dpsstat_zero : at d dpsstat ≡ 0
  pub exfak_zero : at d exfak ≡ 0

-- what always holds of a line
pub record Lawful (t : State) : Type 0 where
  pub large : 256 ≤ length t.device.memory
  pub small : length t.device.memory ≤ 32768
  pub eight : length t.device.last ≡ 8
  pub taken_fits : t.device.taken < 2 ^ 32
  pub events_fit : t.device.events < 2 ^ 32
  pub expedited_fit : t.device.expedited < 2 ^ 32
  pub row_held : t.row ≤ 255
  pub new : t.device.waiting ≡ true → New t.device

-- the answer that a method's result stands for
abbrev pub polled : Option PollAnswer → Option Reply
polled (Some p) = Some (Polled p)
polled None = None

abbrev pub byte : Option ℕ → Option Reply
byte (Some b) = Some (Byte b)
byte None = None

abbrev pub done : Bool → Option Reply
done true = Some Done
done false = None
