-- Which commands went down a line: just those of a procedure, in its order, with its repeats.
use Rattle.std.specs.Prelude.{◌≡◌, ℕ, ◌+◌, ◌<◌, ◌⊎◌, List, Some, None, Ok, Err, Option, Result}
use Rattle.line.specs.declared.command.Command.{Command}
use Rattle.line.specs.declared.command.Reply.{Reply}
use Rattle.procedures.specs.declared.silence.Silence.{Silence}
use Rattle.procedures.specs.Silences.{silence_of}
use Rattle.procedures.specs.Procedure.{Procedure, gives, sends, once, thens}
use Rattle.procedures.specs.Performed.{most_sendings}

-- what one sending does, to a line or to what it tells
abbrev pub Step : Type 0 → Type 1
Step S = S → Command → Option Reply → S → Type 0

-- so many sendings of one command, none of them answered
pub data Unanswered {S : Type 0} (step : Step S) (c : Command) (s : S) : ℕ → S → Type 0 where
  none : Unanswered step c s 0 s
  more : {n : ℕ} {m t : S} → Unanswered step c s n m → step m c None t → Unanswered step c s (n + 1) t

abbrev pub Sends : {S : Type 0} → Step S → Command → S → Result Reply Silence → S → Type 0
Sends {S} step c s (Ok y) t = (n : ℕ) × (m : S) × (n < most_sendings) × Unanswered step c s n m × step m c (Some y) t
Sends {S} step c s (Err e) t = (n : ℕ) × (n ≡ most_sendings) × Unanswered step c s n t × (e ≡ silence_of c)

unfoldable pub Goes : {S A : Type 0} → Step S → Procedure A → S → Result A Silence → S → Type 0
Goes step (gives a) s r t = (t ≡ s) × (r ≡ Ok a)
Goes step (sends c) s r t = Sends step c s r t
Goes step (once c) s r t = (y : Option Reply) × step s c y t × (r ≡ Ok tt)
Goes {S} step (thens {A} p f) s r t = ((a : A) × (m : S) × Goes step p s (Ok a) m × Goes step (f a) m r t) ⊎ ((e : Silence) × Goes step p s (Err e) t × (r ≡ Err e))

-- a procedure was performed, from one line to the other, with this result
pub data Performs {S A : Type 0} (step : Step S) (p : Procedure A) (s : S) (r : Result A Silence) (t : S) : Type 0 where
  performs : Goes step p s r t → Performs step p s r t

-- a result whose record is told by its bytes, as the procedure that read them has it
abbrev pub as_bytes : {R : Type 0} → (R → List ℕ) → Result R Silence → Result (List ℕ) Silence
as_bytes bytes (Ok r) = Ok (bytes r)
as_bytes bytes (Err e) = Err e
