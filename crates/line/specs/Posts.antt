-- What it is to post a status: its record is put into place, byte by byte, and its toggle set to X'01'.
use Rattle.std.specs.Prelude.{ℕ, List, [], ◌∷◌, slice_set}

-- memory with bytes put at the addresses of a row, in its order
abbrev pub put_row : List ℕ → List ℕ → List ℕ → List ℕ
put_row [] bs m = m
put_row (p ∷ ps) [] m = m
put_row (p ∷ ps) (b ∷ bs) m = put_row ps bs (slice_set m p b)

abbrev pub posted : ℕ → List ℕ → List ℕ → List ℕ → List ℕ
posted toggle places bytes m = slice_set (put_row places bytes m) toggle 1
