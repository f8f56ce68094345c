-- The function codes, and the first parameters of a status report.
use Rattle.std.specs.Prelude.{ℕ, Bool, true, false, cond, ◌||◌, List, [], ◌∷◌, Ok, Err, Result, ◌==◌}
use Rattle.codes.specs.declared.number.Refusal.{Refusal}
use Rattle.codes.specs.declared.number.Refusal.TheVariants.{UnknownCode}
use Rattle.codes.specs.declared.function.FunctionCode.{FunctionCode}
use Rattle.codes.specs.declared.function.FunctionCode.TheVariants.{Cnop, Wcus, Wdat, Wdbd, Rdcopy, Wlcc, Lock, Rdat, Wctl, Pdat, Ctccs, Rdbd, Rpid}

abbrev pub code_byte : FunctionCode → ℕ
code_byte Cnop = 0x01
code_byte Wcus = 0x02
code_byte Wdat = 0x03
code_byte Wdbd = 0x04
code_byte Rdcopy = 0x05
code_byte Wlcc = 0x06
code_byte Lock = 0x07
code_byte Rdat = 0x08
code_byte Wctl = 0x09
code_byte Pdat = 0x0a
code_byte Ctccs = 0x0b
code_byte Rdbd = 0x0c
code_byte Rpid = 0x0d

abbrev pub codes : List FunctionCode
codes =
    Cnop ∷ Wcus ∷ Wdat ∷ Wdbd ∷ Rdcopy ∷ Wlcc ∷ Lock ∷ Rdat ∷ Wctl ∷ Pdat ∷ Ctccs ∷ Rdbd ∷ Rpid ∷ []

-- the first of some codes that has a byte
abbrev pub code_among : List FunctionCode → ℕ → Result FunctionCode Refusal
code_among [] byte = Err UnknownCode
code_among (c ∷ cs) byte = cond (byte == code_byte c) (Ok c) (code_among cs byte)

abbrev pub code_of : ℕ → Result FunctionCode Refusal
code_of byte = code_among codes byte

-- the functions for a logical terminal that has to be online
abbrev pub needs_online : FunctionCode → Bool
needs_online Cnop = false
needs_online Wcus = false
needs_online Wdat = true
needs_online Wdbd = false
needs_online Rdcopy = false
needs_online Wlcc = true
needs_online Lock = true
needs_online Rdat = true
needs_online Wctl = false
needs_online Pdat = true
needs_online Ctccs = true
needs_online Rdbd = false
needs_online Rpid = false

abbrev pub listed : ℕ → List ℕ → Bool
listed n [] = false
listed n (m ∷ ms) = n == m || listed n ms

-- the first parameters that a status report takes
abbrev pub reports : List ℕ
reports =
    0x01 ∷ 0x02 ∷ 0x03
    ∷ 0x10
    ∷ 0x20
    ∷ 0x30 ∷ 0x31
    ∷ 0x40 ∷ 0x41 ∷ 0x42
    ∷ 0x51 ∷ 0x52 ∷ 0x53 ∷ 0x54 ∷ 0x55 ∷ 0x56 ∷ 0x57 ∷ 0x58 ∷ 0x59 ∷ 0x5a ∷ 0x5b ∷ 0x5c
    ∷ 0x60 ∷ 0x61
    ∷ 0x70 ∷ 0x71
    ∷ []

abbrev pub report_listed : ℕ → Bool
report_listed n = listed n reports
