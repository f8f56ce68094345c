-- What holds of every procedure: each call's contract rests on it.
use Rattle.std.specs.Prelude.{◌≡◌, ◌≤◌, List, [], Err, Result}
use Rattle.line.specs.State.{State, Choice}
use Rattle.line.specs.Rules.{Permitted}
use Rattle.procedures.specs.declared.silence.Silence.{Silence}
use Rattle.procedures.specs.Procedure.{Procedure}
use Rattle.procedures.specs.Performed.{performed}
use Rattle.procedures.specs.Performs.{Performs}

-- Where just the commands of a procedure went down a line that keeps the rules, its result and what the line
-- tells are the function of the line's choices, one for each sending.
abbrev pub SendingsDecideTheOutcome : Type 1
SendingsDecideTheOutcome = (A : Type 0) (p : Procedure A) (t u : State) (r : Result A Silence) → Performs Permitted p t r u
    → (cs : List Choice) × (performed p cs t ≡ record { result = r; state = u; left = [] })

-- Where a procedure broke off, the last 32 commands at least went unanswered in a row.
abbrev pub SilenceIsThirtyTwoInARow : Type 1
SilenceIsThirtyTwoInARow = (A : Type 0) (p : Procedure A) (cs : List Choice) (t : State) (e : Silence) → (performed p cs t).result ≡ Err e → 32 ≤ (performed p cs t).state.row
