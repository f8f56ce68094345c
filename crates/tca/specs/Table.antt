-- The table of the fields, and what makes a table of fields sound.
use Rattle.std.specs.Prelude.{ℕ, ◌+◌, ◌<◌, ◌≤◌, ◌⊎◌, List, [], ◌∷◌, length, slice_index_or}
use Rattle.tca.specs.declared.field.Field.{Field}
use Rattle.tca.specs.declared.field.Half.{Half}
use Rattle.tca.specs.declared.field.Half.TheVariants.{Device, Unit as OfUnit}
use Rattle.tca.specs.declared.field.Name.TheVariants.{Dpastat, Dpsstat, Dssv, Dssp, Dssp2, Dssp3, Daltad, Daev, Daep, Daep2, Daep3, Daep4, Exflt, Exfrq, Exfak, Cudp, Cultad, Cufrv, Cusyn, Cufrp1, Cufrp2, Cufrp3, Cufrp4, Culta1, Culta2, Culta3, Culta4, Culta5, Exfd1, Exfd2, Exfd3, Exfd4}
use Rattle.tca.specs.Fields.{dpastat, dpsstat, dssv, dssp, dssp2, dssp3, daltad, daev, daep, daep2, daep3, daep4, exflt, exfrq, exfak, cudp, cultad, cufrv, cusyn, cufrp1, cufrp2, cufrp3, cufrp4, culta1, culta2, culta3, culta4, culta5, exfd1, exfd2, exfd3, exfd4, unit_half, data_area}

-- two fields share no byte
abbrev pub Apart : Field → Field → Type 0
Apart f g = (f.address + f.length ≤ g.address) ⊎ (g.address + g.length ≤ f.address)

-- a field lies in a half of the area
abbrev pub In : Field → Half → Type 0
In f Device = f.address + f.length ≤ unit_half
In f OfUnit = (unit_half ≤ f.address) × (f.address + f.length ≤ data_area)

-- what stands past a table's end
abbrev pub nowhere : Field
nowhere = record { name = Dpastat; address = 0; length = 0; half = Device }

-- each field lies in its own half, and no two overlap
pub record Sound (fs : List Field) : Type 0 where
  pub owned : (i : ℕ) → i < length fs → In (slice_index_or fs i nowhere) (slice_index_or fs i nowhere).half
  pub apart : (i j : ℕ) → i < j → j < length fs → Apart (slice_index_or fs i nowhere) (slice_index_or fs j nowhere)

abbrev pub table : List Field
table =
    record { name = Dpastat; address = dpastat; length = 1; half = Device }
    ∷ record { name = Dpsstat; address = dpsstat; length = 1; half = Device }
    ∷ record { name = Dssv; address = dssv; length = 1; half = Device }
    ∷ record { name = Dssp; address = dssp; length = 1; half = Device }
    ∷ record { name = Dssp2; address = dssp2; length = 1; half = Device }
    ∷ record { name = Dssp3; address = dssp3; length = 1; half = Device }
    ∷ record { name = Daltad; address = daltad; length = 1; half = Device }
    ∷ record { name = Daev; address = daev; length = 1; half = Device }
    ∷ record { name = Daep; address = daep; length = 1; half = Device }
    ∷ record { name = Daep2; address = daep2; length = 1; half = Device }
    ∷ record { name = Daep3; address = daep3; length = 1; half = Device }
    ∷ record { name = Daep4; address = daep4; length = 1; half = Device }
    ∷ record { name = Exflt; address = exflt; length = 1; half = Device }
    ∷ record { name = Exfrq; address = exfrq; length = 1; half = Device }
    ∷ record { name = Exfak; address = exfak; length = 1; half = Device }
    ∷ record { name = Cudp; address = cudp; length = 2; half = OfUnit }
    ∷ record { name = Cultad; address = cultad; length = 1; half = OfUnit }
    ∷ record { name = Cufrv; address = cufrv; length = 1; half = OfUnit }
    ∷ record { name = Cusyn; address = cusyn; length = 1; half = OfUnit }
    ∷ record { name = Cufrp1; address = cufrp1; length = 1; half = OfUnit }
    ∷ record { name = Cufrp2; address = cufrp2; length = 1; half = OfUnit }
    ∷ record { name = Cufrp3; address = cufrp3; length = 1; half = OfUnit }
    ∷ record { name = Cufrp4; address = cufrp4; length = 1; half = OfUnit }
    ∷ record { name = Culta1; address = culta1; length = 1; half = OfUnit }
    ∷ record { name = Culta2; address = culta2; length = 1; half = OfUnit }
    ∷ record { name = Culta3; address = culta3; length = 1; half = OfUnit }
    ∷ record { name = Culta4; address = culta4; length = 1; half = OfUnit }
    ∷ record { name = Culta5; address = culta5; length = 1; half = OfUnit }
    ∷ record { name = Exfd1; address = exfd1; length = 1; half = OfUnit }
    ∷ record { name = Exfd2; address = exfd2; length = 1; half = OfUnit }
    ∷ record { name = Exfd3; address = exfd3; length = 1; half = OfUnit }
    ∷ record { name = Exfd4; address = exfd4; length = 1; half = OfUnit }
    ∷ []
