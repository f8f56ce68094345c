-- The calls, each on one port and one line.
use Rattle.std.specs.Prelude.{ℕ, ◌-◌, Bool, true, false, ◌&&◌, List, ◌++◌, length, drop, Some, None, Ok, Err, Option, Result, ◌==◌}
use Rattle.std.specs.Option.{option_map_or}
use Rattle.std.specs.Result.{result_map_both}
use Rattle.codes.specs.declared.attachment.Attachment.{Attachment}
use Rattle.codes.specs.declared.number.Refusal.{Refusal}
use Rattle.codes.specs.declared.number.Ending.{Ending}
use Rattle.codes.specs.declared.number.Ending.TheVariants.{Silence as Silent, BadToggle, DeviceReset, EventNotAllowed, PermanentError as Permanent, Dropped as ByHost}
use Rattle.tca.specs.Fields.{dpastat, daltad}
use Rattle.tca.specs.Records.{synchronous_of, event_of, expedited_of, cu_ready}
use Rattle.tca.specs.declared.request.Request.{Request}
use Rattle.tca.specs.declared.status.SynchronousStatus.{SynchronousStatus}
use Rattle.tca.specs.declared.status.Event.{Event}
use Rattle.tca.specs.declared.status.ExpeditedStatus.{ExpeditedStatus}
use Rattle.line.specs.State.{State}
use Rattle.line.specs.Rules.{bytes_at}
use Rattle.procedures.specs.declared.silence.Silence.{Silence}
use Rattle.procedures.specs.declared.silence.CommandKind.{CommandKind}
use Rattle.procedures.specs.declared.silence.CommandKind.TheVariants.{Poll as APoll, Read as ARead, Write as AWrite}
use Rattle.procedures.specs.Procedure.{gives, rising}
use Rattle.ports.specs.declared.port.Marks.{Marks}
use Rattle.ports.specs.declared.port.Connection.{Connection}
use Rattle.ports.specs.declared.port.Port.{Port}
use Rattle.ports.specs.declared.disconnection.Disconnection.{Disconnection}
use Rattle.ports.specs.declared.seen.Seen.{Seen}
use Rattle.ports.specs.declared.seen.Seen.TheVariants.{Restart, Clean, Bad, Toggles}
use Rattle.ports.specs.declared.verdict.Verdict.{Verdict}
use Rattle.ports.specs.declared.verdict.Verdict.TheVariants.{NotAllowed, Allowed, PermanentError}
use Rattle.ports.specs.declared.answers.Failure.{Failure}
use Rattle.ports.specs.declared.answers.Failure.TheVariants.{Refused, Disconnected}
use Rattle.ports.specs.declared.answers.AttachFailure.{AttachFailure}
use Rattle.ports.specs.declared.answers.AttachFailure.TheVariants.{Refused as NotTried, NotWaiting, Disconnected as BrokenOff}
use Rattle.ports.specs.declared.answers.Handed.{Handed}
use Rattle.ports.specs.Results.{by_result}
use Rattle.ports.specs.Port.{no_marks, held, is_active, online, next_cusyn, change, with_connection, disconnected, with_marks, without_expedited, without_ended, without_asynchronous}
use Rattle.ports.specs.Events.{judge}
use Rattle.ports.specs.Refusals.{refuse_configure, refuse_attach, refuse_connected, nothing_else, refuse_request, refuse_fetch, refuse_collect, refuse_take, refuse_expedite}
use Rattle.ports.specs.Sendings.{attaches, polls, requests, collects, takes, expedites, fetches, drops}
use Rattle.ports.specs.Call.{Call}

-- A disconnection tells its cause, the last command with its address, and the request that is lost.
abbrev pub broken_by : Silence → Option Request → Disconnection
broken_by e lost = record { cause = Silent; last = Some (e.command, e.address); lost = lost }

abbrev pub ended_by : Ending → CommandKind → ℕ → Port → Disconnection
ended_by n c a k = record { cause = n; last = Some (c, a); lost = held k.connection }

-- what a connected port answers to a silence
abbrev pub silent : Port → Silence → Failure
silent k e = Disconnected (broken_by e (held k.connection))

-- What becomes of a connected port: nothing where the call is refused, it is disconnected where the call ends so,
-- and else what the call makes of it.
abbrev pub failed_after : Port → Failure → Port
failed_after k (Refused n) = k
failed_after k (Disconnected d) = disconnected k

abbrev pub answered_after : {A : Type 0} → (A → Port) → Port → Result A Failure → Port
answered_after f k = by_result f (failed_after k)

-- configure: sets the five addresses
abbrev pub configured_after : List ℕ → Port → Result (Unit {0}) Refusal → Port
configured_after ts k (Ok x) = record k { terminals = ts }
configured_after ts k (Err n) = k

abbrev pub configure_call : List ℕ → Port → Call (Result (Unit {0}) Refusal)
configure_call ts k = record {
  Found = Unit {0};
  refused = refuse_configure ts k;
  refusal = λ n. Err n;
  procedure = gives tt;
  answers = λ _. Ok tt;
  after = configured_after ts k;
}

-- attach: the unit's ready report is the first request
abbrev pub attach_answer : Result Bool Silence → Result (Unit {0}) AttachFailure
attach_answer (Ok true) = Ok tt
attach_answer (Ok false) = Err NotWaiting
attach_answer (Err e) = Err (BrokenOff (broken_by e None))

abbrev pub attached_after : Port → Result (Unit {0}) AttachFailure → Port
attached_after k (Ok x) = with_connection (Some (record { cusyn = 1; marks = no_marks; online = 0; request = Some cu_ready })) k
attached_after k (Err e) = k

abbrev pub attach_call : Port → Call (Result (Unit {0}) AttachFailure)
attach_call k = record {
  Found = Bool;
  refused = refuse_attach k;
  refusal = λ n. Err (NotTried n);
  procedure = attaches k.terminals;
  answers = attach_answer;
  after = attached_after k;
}

-- poll: the marks are set anew from the three toggles and the port's state
abbrev pub poll_answer : Port → Result Seen Silence → Result Marks Failure
poll_answer k (Ok Restart) = Err (Disconnected (ended_by DeviceReset APoll 0 k))
poll_answer k (Ok Clean) = Ok no_marks
poll_answer k (Ok (Bad a)) = Err (Disconnected (ended_by BadToggle ARead a k))
poll_answer k (Ok (Toggles e s a)) = Ok (record { expedited = (e == 1); ended = is_active k.connection && (s == 1); asynchronous = (a == 1) })
poll_answer k (Err e) = Err (silent k e)

abbrev pub polled_after : Port → Result Marks Failure → Port
polled_after k = answered_after (λ m. change (with_marks m) k) k

abbrev pub poll_call : Port → Call (Result Marks Failure)
poll_call k = record {
  Found = Seen;
  refused = refuse_connected nothing_else k;
  refusal = λ n. Err (Refused n);
  procedure = polls;
  answers = poll_answer k;
  after = polled_after k;
}

-- request: broken off, it is accepted and lost
abbrev pub request_answer : Request → Result (Unit {0}) Silence → Result (Unit {0}) Failure
request_answer r = result_map_both (λ x. x) (λ e. Disconnected (broken_by e (Some r)))

abbrev pub with_request : Request → Connection → Connection
with_request r c = record c { cusyn = 1 - c.cusyn; request = Some r }

abbrev pub requested_after : Request → Port → Result (Unit {0}) Failure → Port
requested_after r k = answered_after (λ _. change (with_request r) k) k

abbrev pub request_call : Request → List ℕ → Port → State → Call (Result (Unit {0}) Failure)
request_call r bs k t = record {
  Found = Unit {0};
  refused = refuse_connected (refuse_request k.terminals (length t.device.memory) r (length bs)) k;
  refusal = λ n. Err (Refused n);
  procedure = requests r bs (next_cusyn k.connection);
  answers = request_answer r;
  after = requested_after r k;
}

-- collect: the port is idle
abbrev pub collect_answer : Port → Result (List ℕ) Silence → Result SynchronousStatus Failure
collect_answer k = result_map_both synchronous_of (silent k)

abbrev pub with_collected : Connection → Connection
with_collected c = record c { marks = without_ended c.marks; request = None }

abbrev pub collected_after : Port → Result SynchronousStatus Failure → Port
collected_after k = answered_after (λ _. change with_collected k) k

abbrev pub collect_call : Port → Call (Result SynchronousStatus Failure)
collect_call k = record {
  Found = List ℕ;
  refused = refuse_connected refuse_collect k;
  refusal = λ n. Err (Refused n);
  procedure = collects;
  answers = collect_answer k;
  after = collected_after k;
}

-- take: an event that is not allowed is not handed over, and DPASTAT is not written
abbrev pub judged : Attachment → Port → Event → Verdict
judged m k e = judge m k.terminals (online k.connection) e

abbrev pub take_by : Port → Verdict → Event → Result Handed Failure
take_by k NotAllowed e = Err (Disconnected (ended_by EventNotAllowed ARead daltad k))
take_by k (Allowed on) e = Ok (record { event = e; disconnection = None })
take_by k PermanentError e = Ok (record { event = e; disconnection = Some (ended_by Permanent AWrite dpastat k) })

abbrev pub take_answer : Attachment → Port → Result (List ℕ) Silence → Result Handed Failure
take_answer m k (Ok bs) = take_by k (judged m k (event_of bs)) (event_of bs)
take_answer m k (Err e) = Err (silent k e)

abbrev pub online_after : Verdict → ℕ → ℕ
online_after NotAllowed on = on
online_after (Allowed on') on = on'
online_after PermanentError on = on

abbrev pub with_event : Verdict → Connection → Connection
with_event v c = record c { marks = without_asynchronous c.marks; online = online_after v c.online }

abbrev pub handed_after : Attachment → Port → Handed → Port
handed_after m k h = option_map_or (λ _. disconnected k) h.disconnection (change (with_event (judged m k h.event)) k)

abbrev pub taken_after : Attachment → Port → Result Handed Failure → Port
taken_after m k = answered_after (handed_after m k) k

abbrev pub take_call : Attachment → Port → Call (Result Handed Failure)
take_call m k = record {
  Found = List ℕ;
  refused = refuse_connected refuse_take k;
  refusal = λ n. Err (Refused n);
  procedure = takes (judged m k);
  answers = take_answer m k;
  after = taken_after m k;
}

-- expedite
abbrev pub expedite_answer : Port → Result (List ℕ) Silence → Result ExpeditedStatus Failure
expedite_answer k = result_map_both expedited_of (silent k)

abbrev pub expedited_after : Port → Result ExpeditedStatus Failure → Port
expedited_after k = answered_after (λ _. change (λ c. with_marks (without_expedited c.marks) c) k) k

abbrev pub expedite_call : List ℕ → Port → Call (Result ExpeditedStatus Failure)
expedite_call response k = record {
  Found = List ℕ;
  refused = refuse_connected refuse_expedite k;
  refusal = λ n. Err (Refused n);
  procedure = expedites response;
  answers = expedite_answer k;
  after = expedited_after k;
}

-- fetch: the answer, and the buffer after it: what was read, then its old bytes
abbrev pub over : List ℕ → List ℕ → List ℕ
over bs buffer = bs ++ drop (length bs) buffer

abbrev pub fetched_by : Port → Result (List ℕ) Silence → Result (Unit {0}) Failure
fetched_by k = result_map_both (λ _. tt) (silent k)

abbrev pub buffer_after : ℕ → List ℕ → State → Result (List ℕ) Silence → List ℕ
buffer_after address buffer t (Ok bs) = over bs buffer
buffer_after address buffer t (Err e) = over (bytes_at (rising address (e.address - address)) t.device) buffer

abbrev pub fetch_answer : ℕ → List ℕ → Port → State → Result (List ℕ) Silence → Result (Unit {0}) Failure × List ℕ
fetch_answer address buffer k t r = (fetched_by k r, buffer_after address buffer t r)

abbrev pub fetched_after : Port → Result (Unit {0}) Failure → Port
fetched_after k = answered_after (λ _. k) k

abbrev pub fetch_call : ℕ → ℕ → List ℕ → Port → State → Call (Result (Unit {0}) Failure × List ℕ)
fetch_call address long buffer k t = record {
  Found = List ℕ;
  refused = refuse_connected (refuse_fetch (length t.device.memory) address long (length buffer)) k;
  refusal = λ n. (Err (Refused n), buffer);
  procedure = fetches address long;
  answers = fetch_answer address buffer k t;
  after = λ a. fetched_after k a.0;
}

-- drop: no command is told
abbrev pub dropped_by : Port → Disconnection
dropped_by k = record { cause = ByHost; last = None; lost = held k.connection }

abbrev pub dropped_after : Port → Result Disconnection Refusal → Port
dropped_after k (Ok d) = disconnected k
dropped_after k (Err n) = k

abbrev pub drop_call : Port → Call (Result Disconnection Refusal)
drop_call k = record {
  Found = Unit {0};
  refused = refuse_connected nothing_else k;
  refusal = λ n. Err n;
  procedure = drops;
  answers = λ _. Ok (dropped_by k);
  after = dropped_after k;
}
