-- What a procedure leaves and gives, as a function of what the line tells and of its choices.
use Rattle.std.specs.Prelude.{ℕ, zero, suc, false, List, [], ◌∷◌, Some, None, Ok, Err, Option, Result}
use Rattle.line.specs.declared.command.Command.{Command}
use Rattle.line.specs.declared.command.Reply.{Reply}
use Rattle.line.specs.State.{State, Choice, unheard}
use Rattle.line.specs.Rules.{after, answer}
use Rattle.procedures.specs.declared.silence.Silence.{Silence}
use Rattle.procedures.specs.Silences.{silence_of}
use Rattle.procedures.specs.Procedure.{Procedure, gives, sends, once, thens}

-- The result, or the silence that broke it off; what the line tells after; and the choices not yet used.
pub record Performed (A : Type 0) : Type 0 where
  pub result : Result A Silence
  pub state : State
  pub left : List Choice

-- Each sending uses one choice. Where none is left, the sending is not heard.
abbrev pub next : List Choice → Choice
next [] = record { passage = unheard; restarts = false; to_dpastat = 0; to_dpsstat = 0; to_exfak = 0; bytes = [] }
next (ch ∷ cs) = ch

abbrev pub later : List Choice → List Choice
later [] = []
later (ch ∷ cs) = cs

-- an answer ends the sendings of a command
abbrev pub or_again : Option Reply → State → List Choice → Performed Reply → Performed Reply
or_again (Some y) u cs again = record { result = Ok y; state = u; left = cs }
or_again None u cs again = again

-- at most so many sendings of one command, until it is answered
unfoldable pub tried : ℕ → Command → List Choice → State → Performed Reply
tried zero c cs t = record { result = Err (silence_of c); state = t; left = cs }
tried (suc n) c cs t = or_again (answer c (next cs) t) (after c (next cs) t) (later cs) (tried n c (later cs) (after c (next cs) t))

-- a silence breaks off what would come after it
abbrev pub going_on : {A B : Type 0} → Result A Silence → State → List Choice → (A → List Choice → State → Performed B) → Performed B
going_on (Ok a) t cs f = f a cs t
going_on (Err e) t cs f = record { result = Err e; state = t; left = cs }

-- how often a command is sent before its silence is taken for an end
abbrev pub most_sendings : ℕ
most_sendings = 32

unfoldable pub performed : {A : Type 0} → Procedure A → List Choice → State → Performed A
performed (gives a) cs t = record { result = Ok a; state = t; left = cs }
performed (sends c) cs t = tried most_sendings c cs t
performed (once c) cs t = record { result = Ok tt; state = after c (next cs) t; left = later cs }
performed (thens p f) cs t = let r = performed p cs t in going_on r.result r.state r.left (λ a. performed (f a))
