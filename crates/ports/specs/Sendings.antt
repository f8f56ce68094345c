-- Exactly which commands each call sends.
use Rattle.std.specs.Prelude.{ℕ, Bool, true, false, List, length, replicate, nat_lt}
use Rattle.line.specs.declared.command.Command.TheVariants.{Poll, Start, Acknowledge, TerminalId, Reset}
use Rattle.line.specs.declared.command.PollAnswer.{PollAnswer}
use Rattle.line.specs.declared.command.PollAnswer.TheVariants.{Reset as RestartWaits, Status, Clean as NoStatus}
use Rattle.tca.specs.Fields.{dpastat, dpsstat, exfak, cusyn, unit_half, request_places, synchronous_places, event_places, expedited_places, response_places, terminal_places}
use Rattle.tca.specs.Records.{request_bytes, event_of, cu_ready}
use Rattle.tca.specs.declared.request.Request.{Request}
use Rattle.tca.specs.declared.status.Event.{Event}
use Rattle.procedures.specs.Procedure.{Procedure, gives, sends, once, thens, either, said, reads, writes, reads_row, writes_row, rising}
use Rattle.ports.specs.declared.seen.Seen.{Seen}
use Rattle.ports.specs.declared.seen.Seen.TheVariants.{Restart, Clean, Bad, Toggles}
use Rattle.ports.specs.declared.verdict.Verdict.{Verdict}
use Rattle.ports.specs.declared.verdict.Verdict.TheVariants.{NotAllowed, Allowed, PermanentError}

-- a disconnection that the unit itself brings about ends in one Reset, whatever becomes of it
abbrev pub resets : {A : Type 0} → A → Procedure A
resets a = thens (once Reset) (λ _. gives a)

-- starting: the eight bytes in record order, zero to DPSSTAT, CUSYN with its other value, Start
abbrev pub starts : Request → ℕ → Procedure (Unit {0})
starts r y = thens (writes_row request_places (request_bytes r)) (λ _. thens (writes dpsstat 0) (λ _. thens (writes cusyn y) (λ _. thens (sends Start) (λ _. gives tt))))

-- a zero for each byte of the unit's half
unfoldable pub zeros : List ℕ
zeros = replicate 64 0

abbrev pub sets_up : List ℕ → Procedure (Unit {0})
sets_up ts = thens (sends Acknowledge) (λ _. thens (writes_row (rising unit_half 64) zeros) (λ _. thens (writes_row terminal_places ts) (λ _. starts cu_ready 1)))

-- whether the port was attached
abbrev pub attaches_by : List ℕ → PollAnswer → Procedure Bool
attaches_by ts RestartWaits = thens (sets_up ts) (λ _. gives true)
attaches_by ts Status = resets false
attaches_by ts NoStatus = resets false

abbrev pub attaches : List ℕ → Procedure Bool
attaches ts = thens (sends Poll) (λ y. attaches_by ts (said y))

-- a toggle is read; the first bad one ends it
abbrev pub checks : ℕ → (ℕ → Procedure Seen) → Procedure Seen
checks a f = thens (reads a) (λ v. either (nat_lt 1 v) (resets (Bad a)) (f v))

abbrev pub looks : PollAnswer → Procedure Seen
looks RestartWaits = resets Restart
looks Status = checks exfak (λ e. checks dpsstat (λ s. checks dpastat (λ a. gives (Toggles e s a))))
looks NoStatus = gives Clean

abbrev pub polls : Procedure Seen
polls = thens (sends Poll) (λ y. looks (said y))

-- the data rising from its address, one Write a byte, then the start
abbrev pub requests : Request → List ℕ → ℕ → Procedure (Unit {0})
requests r bs y = thens (writes_row (rising r.«data» (length bs)) bs) (λ _. starts r y)

abbrev pub collects : Procedure (List ℕ)
collects = reads_row synchronous_places

-- the event is read and tested before DPASTAT is cleared
abbrev pub settles : Verdict → List ℕ → Procedure (List ℕ)
settles NotAllowed bs = resets bs
settles (Allowed on) bs = thens (writes dpastat 0) (λ _. gives bs)
settles PermanentError bs = thens (writes dpastat 0) (λ _. resets bs)

abbrev pub takes : (Event → Verdict) → Procedure (List ℕ)
takes judged = thens (reads_row event_places) (λ bs. settles (judged (event_of bs)) bs)

-- the record is read, the response written, EXFAK cleared, Terminal ID sent
abbrev pub expedites : List ℕ → Procedure (List ℕ)
expedites response = thens (reads_row expedited_places) (λ bs. thens (writes_row response_places response) (λ _. thens (writes exfak 0) (λ _. thens (sends TerminalId) (λ _. gives bs))))

abbrev pub fetches : ℕ → ℕ → Procedure (List ℕ)
fetches address long = reads_row (rising address long)

abbrev pub drops : Procedure (Unit {0})
drops = once Reset
