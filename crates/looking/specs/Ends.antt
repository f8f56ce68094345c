-- How the reading of the toggles ends early.
use Rattle.std.specs.Prelude.{◌≡◌, ℕ, ◌<◌, Ok, Err, Result}
use Rattle.line.specs.declared.command.Command.TheVariants.{Reset}
use Rattle.procedures.specs.declared.silence.Silence.{Silence}
use Rattle.procedures.specs.Procedure.{reads, once}
use Rattle.procedures.specs.Performs.{Step, Performs}
use Rattle.ports.specs.declared.seen.Seen.{Seen}
use Rattle.ports.specs.declared.seen.Seen.TheVariants.{Bad}
use Rattle.looking.specs.declared.Early.{Early}
use Rattle.looking.specs.declared.Early.TheVariants.{Silent, BadToggle}

-- the toggle at an address was not answered; or it was bad, and a Reset went after it
abbrev pub EndsAt : {S : Type 0} → Step S → ℕ → S → Early → S → Type 0
EndsAt step a s (Silent e) t = Performs step (reads a) s (Err e) t
EndsAt {S} step a s (BadToggle b) t = (b ≡ a) × (v : ℕ) × (m : S) × (1 < v) × Performs step (reads a) s (Ok v) m × Performs step (once Reset) m (Ok tt) t

-- what a look makes of the reading's result
abbrev pub seen_by : Result Seen Early → Result Seen Silence
seen_by (Ok s) = Ok s
seen_by (Err (Silent e)) = Err e
seen_by (Err (BadToggle a)) = Ok (Bad a)
