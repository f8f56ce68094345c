-- The fields of the Terminal Control Area: where each stands, and the addresses of each record in its
-- own order.
use Rattle.std.specs.Prelude.{ℕ, List, [], ◌∷◌}

-- the device's half
abbrev pub dpastat : ℕ
dpastat = 0x00

abbrev pub dpsstat : ℕ
dpsstat = 0x01

abbrev pub dssv : ℕ
dssv = 0x02

abbrev pub dssp : ℕ
dssp = 0x03

abbrev pub dssp2 : ℕ
dssp2 = 0x04

abbrev pub dssp3 : ℕ
dssp3 = 0x05

abbrev pub daltad : ℕ
daltad = 0x06

abbrev pub daev : ℕ
daev = 0x07

abbrev pub daep : ℕ
daep = 0x08

abbrev pub daep2 : ℕ
daep2 = 0x09

abbrev pub daep3 : ℕ
daep3 = 0x0a

abbrev pub daep4 : ℕ
daep4 = 0x0b

abbrev pub exflt : ℕ
exflt = 0x20

abbrev pub exfrq : ℕ
exfrq = 0x21

abbrev pub exfak : ℕ
exfak = 0x26

-- the unit's half; CUDP has two bytes, the high one first
abbrev pub cudp : ℕ
cudp = 0x40

abbrev pub cudp_low : ℕ
cudp_low = 0x41

abbrev pub cultad : ℕ
cultad = 0x42

abbrev pub cufrv : ℕ
cufrv = 0x44

abbrev pub cusyn : ℕ
cusyn = 0x45

abbrev pub cufrp1 : ℕ
cufrp1 = 0x46

abbrev pub cufrp2 : ℕ
cufrp2 = 0x47

abbrev pub cufrp3 : ℕ
cufrp3 = 0x48

abbrev pub cufrp4 : ℕ
cufrp4 = 0x49

abbrev pub culta1 : ℕ
culta1 = 0x54

abbrev pub culta2 : ℕ
culta2 = 0x55

abbrev pub culta3 : ℕ
culta3 = 0x56

abbrev pub culta4 : ℕ
culta4 = 0x57

abbrev pub culta5 : ℕ
culta5 = 0x58

abbrev pub exfd1 : ℕ
exfd1 = 0x5c

abbrev pub exfd2 : ℕ
exfd2 = 0x5d

abbrev pub exfd3 : ℕ
exfd3 = 0x5e

abbrev pub exfd4 : ℕ
exfd4 = 0x5f

-- the places of each record, in the order in which its bytes are read and written
abbrev pub request_places : List ℕ
request_places = cufrv ∷ cufrp1 ∷ cufrp2 ∷ cufrp3 ∷ cufrp4 ∷ cultad ∷ cudp ∷ cudp_low ∷ []

abbrev pub synchronous_places : List ℕ
synchronous_places = dssv ∷ dssp ∷ dssp2 ∷ dssp3 ∷ []

abbrev pub event_places : List ℕ
event_places = daev ∷ daep ∷ daep2 ∷ daep3 ∷ daep4 ∷ daltad ∷ []

abbrev pub expedited_places : List ℕ
expedited_places = exfrq ∷ exflt ∷ exfd1 ∷ exfd2 ∷ exfd3 ∷ exfd4 ∷ []

-- the five logical terminal addresses
abbrev pub terminal_places : List ℕ
terminal_places = culta1 ∷ culta2 ∷ culta3 ∷ culta4 ∷ culta5 ∷ []

-- where the halves and the data area begin
abbrev pub unit_half : ℕ
unit_half = 0x40

abbrev pub data_area : ℕ
data_area = 0x80

-- the bytes of the expedited record that the unit's response goes to
abbrev pub response_places : List ℕ
response_places = exfd1 ∷ exfd2 ∷ exfd3 ∷ exfd4 ∷ []
