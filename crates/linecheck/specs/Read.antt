-- The script that a text says.
use Rattle.std.specs.Prelude.{ℕ, ◌-◌, Bool, cond, ◌&&◌, List, length, take, drop, Some, None, Option, ◌==◌, nat_lt, slice_index}
use Rattle.tca.specs.Records.{synchronous_of}
use Rattle.hexadecimal.specs.Hex.{row_in}
use Rattle.linecheck.specs.declared.script.Script.{Script}

-- the code of the end of a line
abbrev pub line_end : ℕ
line_end = 10

-- a text without the end of its last line
abbrev pub without_end : List ℕ → List ℕ
without_end text = cond (nat_lt 0 (length text) && slice_index text (length text - 1) == line_end) (take (length text - 1) text) text

abbrev pub script_of : Option (List ℕ) → Option (List ℕ) → Option Script
script_of None end = None
script_of (Some ts) None = None
script_of (Some ts) (Some end) = Some (record { terminals = ts; end = synchronous_of end })

-- two lines, of ten and of eight characters
abbrev pub laid_out : List ℕ → Bool
laid_out xs = length xs == 19 && slice_index xs 10 == line_end

-- digits on both; nothing else is a script
abbrev pub script_in : List ℕ → Option Script
script_in xs = cond (laid_out xs) (script_of (row_in 5 (take 10 xs)) (row_in 4 (take 8 (drop 11 xs)))) None
