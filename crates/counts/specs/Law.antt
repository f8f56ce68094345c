-- The law on the counts.
use Rattle.std.specs.Prelude.{◌≡◌, ℕ, ◌+◌, ◌%◌, ◌^◌, Bool, true, false, not, ◌↔◌, List, is_some, Some, None, Option, IfSome, ◌==◌}
use Rattle.codes.specs.declared.attachment.Attachment.{Attachment}
use Rattle.tca.specs.Fields.{dpastat, exfak}
use Rattle.tca.specs.declared.request.Request.{Request}
use Rattle.tca.specs.Records.{request_bytes}
use Rattle.line.specs.State.{Device, at}
use Rattle.ports.specs.declared.port.Connection.{Connection}
use Rattle.ports.specs.declared.port.Port.{Port}
use Rattle.ports.specs.Port.{is_active, held}
use Rattle.ports.specs.Frame.{port_at}
use Rattle.counts.specs.Tally.{Standing, Disconnected, Idle, Active, Tally, Entry, tally}
use Rattle.counts.specs.Run.{Lines, Run}

-- Two counts are equal exactly when nothing is owed; otherwise the first is one more. The device's counts wrap,
-- so what they are compared with is taken modulo 2^32.
pub record Level (owes : Bool) (equal one_more : Type 0) : Type 0 where
  pub equal_exactly_when : equal ↔ (owes ≡ false)
  pub else_one_more : owes ≡ true → one_more

abbrev pub LevelWrapped : Bool → ℕ → ℕ → Type 0
LevelWrapped owes x y = Level owes (x ≡ y % 2 ^ 32) (x ≡ (y + 1) % 2 ^ 32)

-- at a connected port, counted since the attach that connected it
pub record ConnectedAgrees (n : Tally) (c : Connection) (d : Device) : Type 0 where
  -- requests taken by the device and collected: equal exactly when the port is idle
  pub taken_and_collected : LevelWrapped (is_some c.request) d.taken n.collected_since
  -- and the last that the device took is the latest accepted
  pub last_taken : is_some c.request ≡ true → d.last ≡ request_bytes n.latest
  -- statuses posted and handed over: equal exactly when the toggle is 0
  pub events_posted_and_handed_over : LevelWrapped (not (at d dpastat == 0)) d.events n.events_since
  pub expedited_posted_and_handed_over : LevelWrapped (not (at d exfak == 0)) d.expedited n.expedited_since

-- how a port stands by its record
abbrev pub standing_by : Option Request → Standing
standing_by None = Idle
standing_by (Some r) = Active

abbrev pub standing_of : Option Connection → Standing
standing_of None = Disconnected
standing_of (Some c) = standing_by c.request

pub record Agrees (n : Tally) (k : Port) (d : Device) : Type 0 where
  pub connected : IfSome k.connection (λ c. ConnectedAgrees n c d)
  -- over all calls, requests accepted and collected or lost: equal exactly when the port is not active
  pub accepted_and_collected_or_lost : Level (is_active k.connection) (n.accepted_ever ≡ n.collected_ever + n.lost_ever) (n.accepted_ever ≡ n.collected_ever + n.lost_ever + 1)
  -- the port stands in its record as it does by the answers, and an active one holds the latest accepted
  pub stands : n.standing ≡ standing_of k.connection
  pub holds : is_active k.connection ≡ true → held k.connection ≡ Some n.latest

abbrev pub CountsAgree : Type 0
CountsAgree = (m : Attachment) (h : List Entry) (ks : List Port) (ts : Lines) → Run m h ks ts → (p : ℕ) → Agrees (tally p h) (port_at ks p) (ts p).device
