-- What went down a line: its sendings in order, each with what came back.
use Rattle.std.specs.Prelude.{List, [], ◌∷◌, ◌++◌, Option}
use Rattle.line.specs.declared.command.Command.{Command}
use Rattle.line.specs.declared.command.Reply.{Reply}

abbrev pub Sending : Type 0
Sending = Command × Option Reply

-- just these sendings lead from one line to the other
pub data Sent {S : Type 0} (step : S → Command → Option Reply → S → Type 0) (s : S) : List Sending → S → Type 0 where
  none : Sent step s [] s
  more : {m t : S} {c : Command} {r : Option Reply} {xs : List Sending} → Sent step s xs m → step m c r t → Sent step s (xs ++ (c, r) ∷ []) t
