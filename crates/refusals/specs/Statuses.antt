-- What the calls that ask for a status share.
use Rattle.std.specs.Prelude.{Bool, not, Option}
use Rattle.std.specs.Bool.{then_some}
use Rattle.std.specs.Option.{option_or}
use Rattle.codes.specs.declared.number.Refusal.{Refusal}
use Rattle.codes.specs.declared.number.Refusal.TheVariants.{NotMarked, ExpeditedFirst}

-- by whether its mark is set, and whether an expedited status comes before it
abbrev pub refuse_status : Bool → Bool → Option Refusal
refuse_status marked second = option_or (then_some (not marked) NotMarked) (then_some second ExpeditedFirst)
