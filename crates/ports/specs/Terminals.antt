-- The logical terminals of a port: which are configured, and which of them are online.
use Rattle.std.specs.Prelude.{ℕ, ◌/◌, Bool, true, false, not, ◌&&◌, ◌||◌, List, [], ◌∷◌, ◌==◌, bit_and}
use Rattle.line.specs.Rules.{is_in}
use Rattle.ports.specs.Port.{no_terminal}

abbrev pub none_configured : List ℕ → Bool
none_configured [] = true
none_configured (x ∷ xs) = x == no_terminal && none_configured xs

-- two logical terminals with one address
abbrev pub some_equal : List ℕ → Bool
some_equal [] = false
some_equal (x ∷ xs) = (not (x == no_terminal) && is_in xs x) || some_equal xs

abbrev pub is_configured : List ℕ → ℕ → Bool
is_configured ts a = not (a == no_terminal) && is_in ts a

-- A set of the five terminals is a byte, the first one its most significant bit.
abbrev pub first_bit : ℕ
first_bit = 0x80

abbrev pub has_bit : ℕ → ℕ → Bool
has_bit set bit = not ((bit_and set bit) == 0)

-- an address is that of a terminal in the set
abbrev pub among : ℕ → List ℕ → ℕ → ℕ → Bool
among bit [] set a = false
among bit (x ∷ xs) set a = (x == a && has_bit set bit) || among (bit / 2) xs set a

abbrev pub is_online : List ℕ → ℕ → ℕ → Bool
is_online ts set a = not (a == no_terminal) && among first_bit ts set a

-- the bits that stand for no terminal are zero
abbrev pub only_terminals : ℕ → Bool
only_terminals set = (bit_and set 0x07) == 0

-- each terminal in the set has an address
abbrev pub all_configured : ℕ → List ℕ → ℕ → Bool
all_configured bit [] set = true
all_configured bit (x ∷ xs) set = not (has_bit set bit && x == no_terminal) && all_configured (bit / 2) xs set
