-- What can be asked of a port, and the call that it is.
use Rattle.std.specs.Prelude.{ℕ, List, Result}
use Rattle.codes.specs.declared.attachment.Attachment.{Attachment}
use Rattle.codes.specs.declared.number.Refusal.{Refusal}
use Rattle.tca.specs.declared.request.Request.{Request}
use Rattle.tca.specs.declared.status.SynchronousStatus.{SynchronousStatus}
use Rattle.tca.specs.declared.status.ExpeditedStatus.{ExpeditedStatus}
use Rattle.line.specs.State.{State}
use Rattle.ports.specs.declared.port.Marks.{Marks}
use Rattle.ports.specs.declared.port.Port.{Port}
use Rattle.ports.specs.declared.disconnection.Disconnection.{Disconnection}
use Rattle.ports.specs.declared.answers.AttachFailure.{AttachFailure}
use Rattle.ports.specs.declared.answers.Failure.{Failure}
use Rattle.ports.specs.declared.answers.Handed.{Handed}
use Rattle.ports.specs.Call.{Call}
use Rattle.ports.specs.Calls.{configure_call, attach_call, poll_call, request_call, collect_call, take_call, expedite_call, fetch_call, drop_call}

-- a request comes with its data, an expedite with its response, a fetch with address, length and buffer
pub data Asked : Type 0 where
  configure : List ℕ → Asked
  attach : Asked
  poll : Asked
  request : Request → List ℕ → Asked
  collect : Asked
  take : Asked
  expedite : List ℕ → Asked
  fetch : ℕ → ℕ → List ℕ → Asked
  drop : Asked

abbrev pub AnswerTo : Asked → Type 0
AnswerTo (configure ts) = Result (Unit {0}) Refusal
AnswerTo attach = Result (Unit {0}) AttachFailure
AnswerTo poll = Result Marks Failure
AnswerTo (request r bs) = Result (Unit {0}) Failure
AnswerTo collect = Result SynchronousStatus Failure
AnswerTo take = Result Handed Failure
AnswerTo (expedite response) = Result ExpeditedStatus Failure
AnswerTo (fetch address long buffer) = Result (Unit {0}) Failure × List ℕ
AnswerTo drop = Result Disconnection Refusal

-- by what the unit is made for, at a port and what its line tells
abbrev pub call : Attachment → (q : Asked) → Port → State → Call (AnswerTo q)
call m (configure ts) k t = configure_call ts k
call m attach k t = attach_call k
call m poll k t = poll_call k
call m (request r bs) k t = request_call r bs k t
call m collect k t = collect_call k
call m take k t = take_call m k
call m (expedite response) k t = expedite_call response k
call m (fetch address long buffer) k t = fetch_call address long buffer k t
call m drop k t = drop_call k
