-- What each line of a hall tells, by the number of its port.
use Rattle.std.specs.Prelude.{◌≡◌, ◌≢◌, ℕ, List, Some, true, false, replicate, slice_get}
use Rattle.std.specs.Option.{option_map_or}
use Rattle.line.specs.State.{State}
use Rattle.counts.specs.Run.{Lines}

-- where there is no line: a device that was just switched on, of which nothing is asked
unfoldable pub nowhere : State
nowhere = record {
  device = record { memory = replicate 256 0; waiting = true; working = false; seen = 0; last = replicate 8 0; taken = 0; events = 0; expedited = 0 };
  row = 0;
}

abbrev pub told : {L : Type 0} → (L → State) → List L → Lines
told f xs p = option_map_or f (slice_get xs p) nowhere

-- what holds of the line with a number, as it was and as it is
abbrev pub OfLine : {L : Type 0} → ℕ → List L → List L → (L → L → Type 0) → Type 0
OfLine {L} n xs ys Holds = (s t : L) → slice_get xs n ≡ Some s → slice_get ys n ≡ Some t → Holds s t

-- each line but the one with this number is itself
abbrev pub OthersStay : {L : Type 0} → ℕ → List L → List L → Type 0
OthersStay n xs ys = (r : ℕ) → r ≢ n → slice_get ys r ≡ slice_get xs r
