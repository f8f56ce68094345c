-- What a call sent down its line, and how its log grew.
use Rattle.std.specs.Prelude.{◌≡◌, ℕ, ◌<◌, Bool, true, false, ◌&&◌, ◌||◌, ◌⊎◌, List, [], ◌∷◌, ◌++◌, map, length, take, is_some, Some, None, Option, slice_index}
use Rattle.line.specs.Answers.{byte_in}
use Rattle.line.specs.Sent.{Sending, Sent}
use Rattle.line.specs.declared.command.Command.{Command}
use Rattle.line.specs.declared.command.Command.TheVariants.{Poll, Read}
use Rattle.line.specs.declared.command.PollAnswer.TheVariants.{Reset, Status, Clean}
use Rattle.line.specs.declared.command.Reply.{Reply}
use Rattle.line.specs.declared.command.Reply.TheVariants.{Done, Byte, Polled}

-- Some sendings led from one line to the other, just these were noted, and P holds of them.
pub record Went {S : Type 0} (step : S → Command → Option Reply → S → Type 0) (s : S) (before : List Sending) (t : S) (after : List Sending) (P : List Sending → Type 0) : Type 0 where
  pub zs : List Sending
  pub sent : Sent step s zs t
  pub noted : after ≡ before ++ zs
  pub such : P zs

-- Memory ran out: all that was sent is noted but perhaps the last.
pub record Broke {S : Type 0} (step : S → Command → Option Reply → S → Type 0) (s : S) (before : List Sending) (t : S) (after : List Sending) : Type 0 where
  pub m : S
  pub went : Went step s before m after (λ _. Unit {0})
  pub last : (m ≡ t) ⊎ ((c : Command) × (q : Option Reply) × step m c q t)

abbrev pub commands_of : List Sending → List Command
commands_of zs = map (λ z. z.0) zs

abbrev pub all_answered : List Sending → Bool
all_answered [] = true
all_answered (z ∷ zs) = is_some z.1 && all_answered zs

-- All of the commands went and were answered; or the first ones, all answered, and then one that was not.
abbrev pub Ran : List Command → Bool → List Sending → Type 0
Ran cs true zs = (commands_of zs ≡ cs) × (all_answered zs ≡ true)
Ran cs false zs =
    (ys : List Sending) × (c : Command) × (zs ≡ ys ++ (c, None) ∷ []) × (all_answered ys ≡ true)
    × (commands_of zs ≡ take (length zs) cs)

abbrev pub says_status : Option Reply → Bool
says_status None = false
says_status (Some Done) = false
says_status (Some (Byte b)) = false
says_status (Some (Polled Reset)) = false
says_status (Some (Polled Status)) = true
says_status (Some (Polled Clean)) = false

abbrev pub polls : List (Option Reply) → List Sending
polls rs = map (λ r. (Poll, r)) rs

abbrev pub any_status : List (Option Reply) → Bool
any_status [] = false
any_status (r ∷ rs) = says_status r || any_status rs

-- Polls whose last was the first that said status; or as many as there may be, none of which did.
abbrev pub PolledUntil : ℕ → Bool → List Sending → Type 0
PolledUntil most true zs = (rs : List (Option Reply)) × (r : Option Reply) × (zs ≡ polls (rs ++ r ∷ [])) × (any_status rs ≡ false) × (says_status r ≡ true) × (length rs < most)
PolledUntil most false zs = (rs : List (Option Reply)) × (zs ≡ polls rs) × (any_status rs ≡ false) × (length rs ≡ most)

-- the first places read, each answered by its byte
abbrev pub reads : List ℕ → List ℕ → List Sending
reads [] bs = []
reads (a ∷ ps) [] = []
reads (a ∷ ps) (b ∷ bs) = (Read a, Some (Byte b)) ∷ reads ps bs

-- All places gave a byte, and the record is what they make; or one did not, it was the last read, and there
-- is no record.
pub data Gathered {R : Type 0} (places : List ℕ) (of : List ℕ → Option R) (r : Option R) (zs : List Sending) : Type 0 where
  whole : (bs : List ℕ) → length bs ≡ length places → zs ≡ reads places bs → r ≡ of bs → Gathered places of r zs
  cut : (bs : List ℕ) (q : Option Reply) → length bs < length places → zs ≡ reads places bs ++ (Read (slice_index places (length bs)), q) ∷ [] → byte_in q ≡ None → r ≡ None → Gathered places of r zs
