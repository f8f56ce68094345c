-- What was read, as the buffer that it was read into.
use Rattle.std.specs.Prelude.{ℕ, List, Result}
use Rattle.std.specs.Result.{result_map_both}
use Rattle.procedures.specs.declared.silence.Silence.{Silence}

abbrev pub read_into : List ℕ → Result (Unit {0}) Silence → Result (List ℕ) Silence
read_into buffer = result_map_both (λ _. buffer) (λ e. e)
