use Rattle.tca.proofs.Tables.{sound_is}
use Rattle.std.proofs.Common.{refl}
use Rattle.tca.proofs.field.fields.Goals as goal

pub returns : goal.returns
returns c = record { value = refl; sound = sound_is _ tt }
