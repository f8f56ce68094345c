-- Upper-case hexadecimal digits, and the bytes that a text of them spells.
use Rattle.std.specs.Prelude.{ℕ, zero, suc, ◌+◌, ◌-◌, ◌*◌, ◌/◌, ◌%◌, Bool, cond, ◌&&◌, List, [], ◌∷◌, is_some, Some, None, Option, nat_le, nat_lt, slice_index}
use Rattle.std.specs.List.{list_all}

-- '0' to '9' count 0 to 9, 'A' to 'F' 10 to 15
abbrev pub digit_value : ℕ → Option ℕ
digit_value d = cond (nat_le 48 d && nat_le d 57) (Some (d - 48)) (cond (nat_le 65 d && nat_le d 70) (Some (d - 55)) None)

-- the digit of the low four bits
abbrev pub digit_of : ℕ → ℕ
digit_of v = cond (nat_lt (v % 16) 10) (48 + v % 16) (55 + v % 16)

-- the text of a row of bytes: two digits for each, the high one first
abbrev pub spelled : List ℕ → List ℕ
spelled [] = []
spelled (b ∷ bs) = digit_of (b / 16) ∷ digit_of b ∷ spelled bs

abbrev pub byte_in : Option ℕ → Option ℕ → Option ℕ
byte_in None low = None
byte_in (Some high) None = None
byte_in (Some high) (Some low) = Some (high * 16 + low)

-- the byte of a pair of digits, the high one first
unfoldable pub pair_byte : List ℕ → Option ℕ
pair_byte pair = byte_in (digit_value (slice_index pair 0)) (digit_value (slice_index pair 1))

abbrev pub before : Option ℕ → Option (List ℕ) → Option (List ℕ)
before None bs = None
before (Some b) None = None
before (Some b) (Some bs) = Some (b ∷ bs)

-- the row of n bytes that a text spells: none unless it is exactly two digits for each
abbrev pub row_in : ℕ → List ℕ → Option (List ℕ)
row_in zero [] = Some []
row_in zero (d ∷ text) = None
row_in (suc n) [] = None
row_in (suc n) (high ∷ []) = None
row_in (suc n) (high ∷ low ∷ text) = before (byte_in (digit_value high) (digit_value low)) (row_in n text)

abbrev pub all_digits : List ℕ → Bool
all_digits text = list_all (λ d. is_some (digit_value d)) text
