-- The counts of a port, read off a list of calls with their answers.
use Rattle.std.specs.Prelude.{ℕ, ◌+◌, Bool, true, false, List, [], ◌∷◌, Some, None, Option, ◌==◌}
use Rattle.std.specs.Option.{option_map_or}
use Rattle.tca.specs.declared.request.Request.{Request}
use Rattle.tca.specs.Records.{cu_ready}
use Rattle.ports.specs.declared.disconnection.Disconnection.{Disconnection}
use Rattle.ports.specs.declared.answers.Failure.{Failure}
use Rattle.ports.specs.declared.answers.Failure.TheVariants.{Refused, Disconnected as Broken}
use Rattle.ports.specs.declared.answers.AttachFailure.{AttachFailure}
use Rattle.ports.specs.declared.answers.AttachFailure.TheVariants.{Refused as NotTried, NotWaiting, Disconnected as BrokenOff}
use Rattle.ports.specs.declared.answers.Handed.{Handed}
use Rattle.ports.specs.Results.{by_result}
use Rattle.ports.specs.Asked.{Asked, AnswerTo, configure, attach, poll, request, collect, take, expedite, fetch, drop}

-- what an answer tells that is counted; one answer may tell several
pub data Told : Type 0 where
  attached : Told
  accepted : Request → Told
  collected : Told
  event_handed : Told
  expedited_handed : Told
  lost : Told
  disconnected : Told

-- a disconnection tells the request that is lost, if there is one
abbrev pub lost_by : Option Request → List Told
lost_by None = disconnected ∷ []
lost_by (Some r) = lost ∷ disconnected ∷ []

-- a refusal tells nothing
abbrev pub tells_failed : Failure → List Told
tells_failed (Refused n) = []
tells_failed (Broken d) = lost_by d.lost

-- a request that breaks off is accepted before it is lost
abbrev pub tells_begun : Request → Failure → List Told
tells_begun r (Refused n) = []
tells_begun r (Broken d) = accepted r ∷ lost_by d.lost

abbrev pub tells_not_attached : AttachFailure → List Told
tells_not_attached (NotTried n) = []
tells_not_attached NotWaiting = []
tells_not_attached (BrokenOff d) = lost_by d.lost

-- an event that is handed over may be followed by a disconnection
abbrev pub tells_handed : Handed → List Told
tells_handed h = event_handed ∷ option_map_or (λ (d : Disconnection). lost_by d.lost) h.disconnection []

abbrev pub tells : (q : Asked) → AnswerTo q → List Told
tells (configure ts) a = []
tells attach a = by_result (λ _. attached ∷ accepted cu_ready ∷ []) tells_not_attached a
tells poll a = by_result (λ m. []) tells_failed a
tells (request r bs) a = by_result (λ _. accepted r ∷ []) (tells_begun r) a
tells collect a = by_result (λ s. collected ∷ []) tells_failed a
tells take a = by_result tells_handed tells_failed a
tells (expedite response) a = by_result (λ s. expedited_handed ∷ []) tells_failed a
tells (fetch address long buffer) a = by_result (λ _. []) tells_failed a.0
tells drop a = by_result (λ (d : Disconnection). lost_by d.lost) (λ n. []) a

-- how a port stands by the answers
pub data Standing : Type 0 where
  Disconnected : Standing
  Idle : Standing
  Active : Standing

-- Over all calls: requests accepted, collected and lost, and the latest accepted. Since the attach that
-- connected the port: requests collected, events and expedited statuses handed over.
pub record Tally : Type 0 where
  pub standing : Standing
  pub accepted_ever : ℕ
  pub collected_ever : ℕ
  pub lost_ever : ℕ
  pub latest : Request
  pub collected_since : ℕ
  pub events_since : ℕ
  pub expedited_since : ℕ

abbrev pub count : Told → Tally → Tally
count attached n = record n { standing = Idle; collected_since = 0; events_since = 0; expedited_since = 0 }
count (accepted r) n = record n { standing = Active; accepted_ever = n.accepted_ever + 1; latest = r }
count collected n = record n { standing = Idle; collected_ever = n.collected_ever + 1; collected_since = n.collected_since + 1 }
count event_handed n = record n { events_since = n.events_since + 1 }
count expedited_handed n = record n { expedited_since = n.expedited_since + 1 }
count lost n = record n { lost_ever = n.lost_ever + 1 }
count disconnected n = record n { standing = Disconnected }

abbrev pub count_all : List Told → Tally → Tally
count_all [] n = n
count_all (x ∷ xs) n = count_all xs (count x n)

abbrev pub nothing_yet : Tally
nothing_yet = record { standing = Disconnected; accepted_ever = 0; collected_ever = 0; lost_ever = 0; latest = cu_ready; collected_since = 0; events_since = 0; expedited_since = 0 }

-- a call of a port with its answer, or a turn
pub data Entry : Type 0 where
  called : ℕ → (q : Asked) → AnswerTo q → Entry
  turned : Option ℕ → Entry

abbrev pub count_if : Bool → List Told → Tally → Tally
count_if true xs n = count_all xs n
count_if false xs n = n

-- the counts of a port, over a list whose newest entry comes first
abbrev pub tally : ℕ → List Entry → Tally
tally p [] = nothing_yet
tally p (called r q a ∷ h) = count_if (r == p) (tells q a) (tally p h)
tally p (turned named ∷ h) = tally p h
