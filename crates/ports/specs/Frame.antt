-- From one port to the table: a call changes the record of its own port and no other.
use Rattle.std.specs.Prelude.{◌≡◌, ℕ, ◌<◌, ◌≤◌, ◌⊎◌, List, length, ◌≢◌, slice_index_or}
use Rattle.codes.specs.declared.attachment.Attachment.{Attachment}
use Rattle.codes.specs.declared.number.Refusal.TheVariants.{PortTooHigh}
use Rattle.line.specs.State.{State}
use Rattle.ports.specs.declared.port.Port.{Port}
use Rattle.ports.specs.Port.{new_port}
use Rattle.procedures.specs.Performs.{Step}
use Rattle.ports.specs.Call.{Outcome, Commands}
use Rattle.ports.specs.Asked.{Asked, AnswerTo, call}

-- the record of a port, by its number
abbrev pub port_at : List Port → ℕ → Port
port_at ks p = slice_index_or ks p new_port

pub record Here (m : Attachment) (p : ℕ) (q : Asked) (ks : List Port) (t : State) (a : AnswerTo q) (ks' : List Port) (t' : State) : Type 0 where
  pub there : p < length ks
  pub outcome : Outcome (call m q (port_at ks p) t) (port_at ks p) t a (port_at ks' p) t'
  pub others : (r : ℕ) → (r ≢ p) → port_at ks' r ≡ port_at ks r
  pub as_many : length ks' ≡ length ks

-- past the last port it is refused by 1, and nothing is altered
pub record Nowhere (m : Attachment) (p : ℕ) (q : Asked) (ks : List Port) (t : State) (a : AnswerTo q) (ks' : List Port) (t' : State) : Type 0 where
  pub past : length ks ≤ p
  pub refused : a ≡ (call m q new_port t).refusal PortTooHigh
  pub same_ports : ks' ≡ ks
  pub same_line : t' ≡ t

abbrev pub Called : Attachment → ℕ → (q : Asked) → List Port → State → AnswerTo q → List Port → State → Type 0
Called m p q ks t a ks' t' = Here m p q ks t a ks' t' ⊎ Nowhere m p q ks t a ks' t'

-- Which commands went down the line itself: those of the call at its port, and none where there is no such port.
abbrev pub Commanded : {S : Type 0} → Step S → (S → State) → Attachment → ℕ → (q : Asked) → List Port → S → AnswerTo q → S → Type 0
Commanded step tells m p q ks s a s' = ((p < length ks) × Commands step (call m q (port_at ks p) (tells s)) s a s') ⊎ ((length ks ≤ p) × (a ≡ (call m q new_port (tells s)).refusal PortTooHigh) × (s' ≡ s))

-- What a call of the unit says in its contract.
pub record DoneAt {S : Type 0} (step : Step S) (tells : S → State) (m : Attachment) (p : ℕ) (q : Asked) (ks : List Port) (s : S) (a : AnswerTo q) (ks' : List Port) (s' : S) : Type 0 where
  pub commands : Commanded step tells m p q ks s a s'
  pub outcome : Called m p q ks (tells s) a ks' (tells s')
