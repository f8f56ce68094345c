-- A device whose program posts statuses of any of the three families, and does nothing else, keeps the
-- rules.
use Rattle.std.proofs.Common.{◌≡◌, ℕ, ◌+◌, ◌%◌, ◌^◌, ◌<◌, ◌≤◌, Bool, true, false, cond, not, ◌&&◌, eqb, List, ◌∷◌, length, get_or, sym, refl, ap, ◌∙◌, arith, length-set, get_or-set_other, get_or-set_same, ne_eqb}
use borrow.Author.Tests.{clash, eqb-false}
use Rattle.std.proofs.lemmas.Bool.{and_parts, and_from}
use Rattle.tca.specs.Fields.{dpastat, dpsstat, exfak, event_places, synchronous_places, expedited_places, unit_half, data_area}
use Rattle.line.specs.State.{Device, Choice, answered, at}
use Rattle.line.specs.Rules.{is_in, act, counted, posts_event, posts_end, posts_expedited}
use Rattle.line.proofs.Acts.{Leaves, left}
use Rattle.line.specs.Posts.{posted, put_row}
use Rattle.line.proofs.Rows.{row_length, row_other, row_read, read_row, read_same, distinct, all_below, apart, beyond}

-- A status is posted by X'01' where it is due and by 0 else, if it is due only where it may be posted.
posts_due : (b ready zero : Bool) → (b ≡ true → (ready && zero) ≡ true) → (ready && (zero && not (eqb (cond b 1 0) 0))) ≡ b
posts_due true true true h = refl
posts_due true true false h = h refl
posts_due true false z h = h refl
posts_due false true true h = refl
posts_due false true false h = refl
posts_due false false z h = refl

works_too : (w z k : Bool) → ((w && z) && k) ≡ true → ((w && k) && z) ≡ true
works_too true z k e = let both = and_parts z k e in and_from k z both.1 both.0
works_too false z k e = e

-- one status, posted or not

abbrev pub post_if : Bool → ℕ → List ℕ → List ℕ → List ℕ → List ℕ
post_if b t ps bs m = cond b (posted t ps bs m) m

pub if_length : (b : Bool) (t : ℕ) (ps bs m : List ℕ) → length (post_if b t ps bs m) ≡ length m
if_length true t ps bs m = length-set _ t 1 ∙ row_length ps bs m
if_length false t ps bs m = refl

not_first : (t : ℕ) (ps : List ℕ) (j : ℕ) → is_in (t ∷ ps) j ≡ false → (j ≡ t → ⊥) × (is_in ps j ≡ false)
not_first t ps j h = one (eqb j t) refl h
  where
    one : (b : Bool) → eqb j t ≡ b → cond b true (is_in ps j) ≡ false → (j ≡ t → ⊥) × (is_in ps j ≡ false)
    one true e h = absurd (clash (sym h))
    one false e h = (eqb-false j t e, h)

pub if_other : (b : Bool) (t : ℕ) (ps bs m : List ℕ) (j : ℕ) → is_in (t ∷ ps) j ≡ false → get_or (post_if b t ps bs m) j 0 ≡ get_or m j 0
if_other true t ps bs m j h = let n = not_first t ps j h in get_or-set_other _ t j 1 0 n.0 ∙ row_other ps bs m j n.1
if_other false t ps bs m j h = refl

if_not : (b : Bool) (t : ℕ) (ps bs m : List ℕ) (j : ℕ) → b ≡ false → get_or (post_if b t ps bs m) j 0 ≡ get_or m j 0
if_not true t ps bs m j e = absurd (clash (sym e))
if_not false t ps bs m j e = refl

pub if_toggle : (b : Bool) (t : ℕ) (ps bs m : List ℕ) → t < length m → get_or (post_if b t ps bs m) t 0 ≡ cond b (cond b 1 0) (get_or m t 0)
if_toggle true t ps bs m h = get_or-set_same _ t 1 0 (rw (row_length ps bs m) h)
if_toggle false t ps bs m h = refl

-- where it was posted, its record is read
pub if_row : (b : Bool) (t : ℕ) (ps bs m : List ℕ) → b ≡ true → is_in ps t ≡ false → distinct ps ≡ true → all_below data_area ps ≡ true → data_area ≤ length m → length bs ≡ length ps → read_row ps (post_if b t ps bs m) ≡ bs
if_row true t ps bs m e o d l h n = read_same ps (put_row ps bs m) (posted t ps bs m) (λ j i. get_or-set_other _ t j 1 0 (λ (q : j ≡ t). clash (sym o ∙ rw q at i))) ∙ row_read data_area ps bs m d l h n
if_row false t ps bs m e o d l h n = absurd (clash e)

-- all three

module _ (d : Device) (event end expedited : Bool) (E S X : List ℕ) where
  abbrev pub first : List ℕ
  first = post_if event dpastat event_places E d.memory

  abbrev pub second : List ℕ
  second = post_if end dpsstat synchronous_places S first

  abbrev pub third : List ℕ
  third = post_if expedited exfak expedited_places X second

  abbrev pub choice : Choice
  choice = record { passage = answered; restarts = false; to_dpastat = cond event 1 0; to_dpsstat = cond end 1 0; to_exfak = cond expedited 1 0; bytes = third }

  -- an address in none of some families' places
  no_e : (j : ℕ) → is_in (dpastat ∷ event_places) j ≡ false → get_or first j 0 ≡ at d j
  no_e j h = if_other event dpastat event_places E d.memory j h

  no_s : (j : ℕ) → is_in (dpsstat ∷ synchronous_places) j ≡ false → get_or second j 0 ≡ get_or first j 0
  no_s j h = if_other end dpsstat synchronous_places S first j h

  no_x : (j : ℕ) → is_in (exfak ∷ expedited_places) j ≡ false → get_or third j 0 ≡ get_or second j 0
  no_x j h = if_other expedited exfak expedited_places X second j h

  long : length third ≡ length d.memory
  long = if_length expedited exfak expedited_places X second ∙ if_length end dpsstat synchronous_places S first ∙ if_length event dpastat event_places E d.memory

  module _ (big : 256 ≤ length d.memory) where
    second_big : exfak < length second
    second_big = rw (if_length end dpsstat synchronous_places S first, if_length event dpastat event_places E d.memory) (omega arith)

    first_big : dpsstat < length first
    first_big = rw (if_length event dpastat event_places E d.memory) (omega arith)

    -- the three are apart from one another and from whatever else memory holds
    leaves : Leaves event end expedited choice d third
    leaves = record {
      long = long;
      chosen = refl;
      at_dpastat = no_x dpastat refl ∙ no_s dpastat refl ∙ if_toggle event dpastat event_places E d.memory (omega arith);
      at_dpsstat = no_x dpsstat refl ∙ if_toggle end dpsstat synchronous_places S first first_big ∙ ap (cond end (cond end 1 0)) (no_e dpsstat refl);
      at_exfak = if_toggle expedited exfak expedited_places X second second_big ∙ ap (cond expedited (cond expedited 1 0)) (no_s exfak refl ∙ no_e exfak refl);
      no_event = λ f j i.
          no_x j (apart event_places (exfak ∷ expedited_places) j refl i) ∙ no_s j (apart event_places (dpsstat ∷ synchronous_places) j refl i) ∙ if_not event dpastat event_places E d.memory j f;
      no_end = λ f j i.
          no_x j (apart synchronous_places (exfak ∷ expedited_places) j refl i) ∙ if_not end dpsstat synchronous_places S first j f ∙ no_e j (apart synchronous_places (dpastat ∷ event_places) j refl i);
      no_expedited = λ f j i.
          if_not expedited exfak expedited_places X second j f ∙ no_s j (apart expedited_places (dpsstat ∷ synchronous_places) j refl i) ∙ no_e j (apart expedited_places (dpastat ∷ event_places) j refl i);
      no_unit = λ j i l u. no_x j (outside j i l) ∙ rest j l;
      no_data = λ w j l. no_x j (beyond data_area (exfak ∷ expedited_places) j refl l) ∙ rest j (omega arith);
    }
      where
        rest : (j : ℕ) → unit_half ≤ j → get_or second j 0 ≡ at d j
        rest j l = no_s j (beyond unit_half (dpsstat ∷ synchronous_places) j refl l) ∙ no_e j (beyond unit_half (dpastat ∷ event_places) j refl l)

        outside : (j : ℕ) → is_in expedited_places j ≡ false → unit_half ≤ j → is_in (exfak ∷ expedited_places) j ≡ false
        outside j i l = let e : eqb j exfak ≡ false = ne_eqb j exfak (λ s. omega arith) in rw e i

    count : (b : Bool) (n : ℕ) → counted b (cond b 1 0) n ≡ cond b ((n + 1) % 2 ^ 32) n
    count true n = refl
    count false n = refl

    -- what such a device is after it acted
    abbrev pub after_posts : Device
    after_posts = record d {
      memory = third;
      working = cond end false d.working;
      events = cond event ((d.events + 1) % 2 ^ 32) d.events;
      expedited = cond expedited ((d.expedited + 1) % 2 ^ 32) d.expedited;
    }

    pub acts : (event ≡ true → (not d.waiting && eqb (at d dpastat) 0) ≡ true) → (end ≡ true → ((not d.waiting && eqb (at d dpsstat) 0) && d.working) ≡ true)
        → (expedited ≡ true → (not d.waiting && eqb (at d exfak) 0) ≡ true) → act choice d ≡ after_posts
    unfolding act
    acts e s x =
        let m = left event end expedited choice d third leaves in
        let event_due : posts_event choice d ≡ event = posts_due event (not d.waiting) (eqb (at d dpastat) 0) e in
        let end_due : posts_end choice d ≡ end = posts_due end (not d.waiting && d.working) (eqb (at d dpsstat) 0) (λ h. works_too (not d.waiting) _ d.working (s h)) in
        let expedited_due : posts_expedited choice d ≡ expedited = posts_due expedited (not d.waiting) (eqb (at d exfak) 0) x in
        rw (event_due, end_due, expedited_due, m, count event d.events, count expedited d.expedited) refl
