-- What a call is at one port and one line, and what it then does.
use Rattle.std.specs.Prelude.{◌≡◌, List, Some, None, Option, Result}
use Rattle.codes.specs.declared.number.Refusal.{Refusal}
use Rattle.line.specs.State.{State, Choice}
use Rattle.procedures.specs.declared.silence.Silence.{Silence}
use Rattle.procedures.specs.Procedure.{Procedure}
use Rattle.procedures.specs.Performed.{performed}
use Rattle.procedures.specs.Performs.{Step, Performs}
use Rattle.ports.specs.declared.port.Port.{Port}

-- The smallest reason that refuses it, if one does; how a refusal is answered; which commands it sends; what
-- it answers by what came back; and the port's record after that answer.
pub record Call (Answer : Type 0) : Type 1 where
  pub Found : Type 0
  pub refused : Option Refusal
  pub refusal : Refusal → Answer
  pub procedure : Procedure Found
  pub answers : Result Found Silence → Answer
  pub after : Answer → Port

-- A refused call leaves port and line as they are. Otherwise its answer, the record and what the line tells
-- are functions of both and of the line's choices, one for each sending.
abbrev pub OutcomeBy : {Answer : Type 0} → Option Refusal → Call Answer → Port → State → Answer → Port → State → Type 0
OutcomeBy (Some n) c k t a k' t' = (a ≡ c.refusal n) × (k' ≡ k) × (t' ≡ t)
OutcomeBy None c k t a k' t' = (cs : List Choice) × (a ≡ c.answers (performed c.procedure cs t).result) × (k' ≡ c.after a) × (t' ≡ (performed c.procedure cs t).state)

abbrev pub Outcome : {Answer : Type 0} → Call Answer → Port → State → Answer → Port → State → Type 0
Outcome c k t a k' t' = OutcomeBy c.refused c k t a k' t'

-- Which commands went down the line itself: none where it is refused, else just those of its procedure.
abbrev pub CommandsBy : {S Answer : Type 0} → Step S → Option Refusal → Call Answer → S → Answer → S → Type 0
CommandsBy step (Some n) c s a s' = (a ≡ c.refusal n) × (s' ≡ s)
CommandsBy step None c s a s' = (r : Result c.Found Silence) × Performs step c.procedure s r s' × (a ≡ c.answers r)

abbrev pub Commands : {S Answer : Type 0} → Step S → Call Answer → S → Answer → S → Type 0
Commands step c s a s' = CommandsBy step c.refused c s a s'

-- What a call's contract says: of the line itself, and of the port and what the line tells.
pub record Done {S Answer : Type 0} (step : Step S) (tells : S → State) (c : Call Answer) (k : Port) (s : S) (a : Answer) (k' : Port) (s' : S) : Type 0 where
  pub commands : Commands step c s a s'
  pub outcome : Outcome c k (tells s) a k' (tells s')
