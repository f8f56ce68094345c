-- What the rules let a device do of its own accord, within a Poll that is answered.
use Rattle.std.specs.Prelude.{◌≡◌}
use Rattle.line.specs.State.{Device, Choice, answered}
use Rattle.line.specs.Rules.{act}

abbrev pub MayAct : Device → Device → Type 0
MayAct d e = (ch : Choice) × (ch.passage ≡ answered) × (e ≡ act ch d)
