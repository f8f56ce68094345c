-- What a unit and its lines can come to, by calls.
use Rattle.std.specs.Prelude.{◌≡◌, ℕ, List, [], ◌∷◌, replicate, Option, ◌≢◌}
use Rattle.codes.specs.declared.attachment.Attachment.{Attachment}
use Rattle.line.specs.State.{State}
use Rattle.line.specs.Rules.{Lawful}
use Rattle.ports.specs.declared.port.Port.{Port}
use Rattle.ports.specs.Port.{new_port}
use Rattle.ports.specs.Asked.{Asked, AnswerTo}
use Rattle.ports.specs.Frame.{Called}
use Rattle.counts.specs.Tally.{Entry, called, turned}

-- what each port's line tells
abbrev pub Lines : Type 0
Lines = ℕ → State

-- One call: at its port and its line what the call's definition says, no other port's record changed, and no
-- other line.
pub record Step (m : Attachment) (p : ℕ) (q : Asked) (ks : List Port) (ts : Lines) (a : AnswerTo q) (ks' : List Port) (ts' : Lines) : Type 0 where
  pub lawful : Lawful (ts p)
  pub call : Called m p q ks (ts p) a ks' (ts' p)
  pub spared : (r : ℕ) → (r ≢ p) → ts' r ≡ ts r

-- From a unit just made, of any number of ports, with lines in whatever state, by any calls. A turn alters no
-- record and no line, whichever port it names.
pub data Run (m : Attachment) : List Entry → List Port → Lines → Type 0 where
  new : (n : ℕ) {ts : Lines} → Run m [] (replicate n new_port) ts
  calls : {h : List Entry} {ks ks' : List Port} {ts ts' : Lines} {p : ℕ} {q : Asked} {a : AnswerTo q} → Run m h ks ts → Step m p q ks ts a ks' ts' → Run m (called p q a ∷ h) ks' ts'
  turns : {h : List Entry} {ks : List Port} {ts : Lines} {named : Option ℕ} → Run m h ks ts → Run m (turned named ∷ h) ks ts
