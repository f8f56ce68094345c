-- A buffer whose front was read from a line.
use Rattle.std.proofs.Common.{◌≡◌, ℕ, zero, suc, ◌+◌, ◌-◌, ◌<◌, ◌≤◌, List, [], ◌∷◌, ◌++◌, length, take, drop, set, Ok, Err, Option, sym, refl, ap, ◌∙◌, add-zero, add-one, arith, take-append-drop, length-take, drop-drop, drop-set-lt}
use Rattle.std.proofs.lemmas.List.{take_more_set, take_all}
use Rattle.line.specs.declared.command.Command.{Command}
use Rattle.line.specs.declared.command.Reply.{Reply}
use Rattle.line.specs.State.{Device, State, at}
use Rattle.line.specs.Rules.{Permitted, bytes_at}
use Rattle.procedures.specs.declared.silence.Silence.{Silence}
use Rattle.procedures.specs.Procedure.{reads, reads_row, rising}
use Rattle.procedures.specs.Performs.{Step, Performs}
use Rattle.procedures.proofs.Rows.{rising_length, rising_at}
use Rattle.procedures.proofs.Reading.{read_told, read_silent}
use Rattle.procedures.proofs.Steps.{Reading, reading_begins, reading_more, reading_broken, reading_done}
use Rattle.ports.specs.Calls.{over}

-- one more byte at the end of a rising row
bytes_more : (a n : ℕ) (d : Device) → bytes_at (rising a (n + 1)) d ≡ bytes_at (rising a n) d ++ (at d (a + n) ∷ [])
unfolding rising
bytes_more a n d = rw (add-one n) (go a n)
  where
    go : (a n : ℕ) → bytes_at (rising a (suc n)) d ≡ bytes_at (rising a n) d ++ (at d (a + n) ∷ [])
    go a zero = rw (add-zero a) refl
    go a (suc n) = let e : suc a + n ≡ a + suc n = omega arith in ap (λ (xs : List ℕ). at d a ∷ xs) (rw e at (go (suc a) n))

-- so many bytes were read into the front, the rest is as it was, and the device too
pub record Front {S : Type 0} (step : Step S) (tells : S → State) (a n : ℕ) (old : List ℕ) (s : S) (i : ℕ) (buffer : List ℕ) (m : S) : Type 0 where
  pub reading : Reading step (rising a n) s i (take i buffer) m
  pub rest : drop i buffer ≡ drop i old
  pub same : (tells m).device ≡ (tells s).device
  pub bytes : take i buffer ≡ bytes_at (rising a i) (tells s).device

module _ {S : Type 0} {step : Step S} {tells : S → State} {a n : ℕ} {old : List ℕ} {s : S} where
  pub front_begins : Front step tells a n old s 0 old s
  unfolding rising
  front_begins = record { reading = reading_begins (rising a n) s; rest = refl; same = refl; bytes = refl }

  pub front_more : ((s t : S) (c : Command) (r : Option Reply) → step s c r t → Permitted (tells s) c r (tells t)) → {m t : S} {i b : ℕ} {buffer : List ℕ} → i < n → i < length buffer → Front step tells a n old s i buffer m → Performs step (reads (a + i)) m (Ok b) t → Front step tells a n old s (i + 1) (set buffer i b) t
  front_more keeps {m = m} {t = t} {i = i} {b = b} {buffer = buffer} h k f p =
      let r = read_told step tells keeps (a + i) b m t p in
      let within : i < length (rising a n) = rw (rising_length a n) h in
      let value : b ≡ at (tells s).device (a + i) = r.0 ∙ ap (λ (d : Device). at d (a + i)) f.same in
      record {
        reading = rw (take_more_set buffer i b k) (reading_more (rising a n) s m t i b (take i buffer) within f.reading (rw (sym (rising_at a n i h)) at p));
        rest = rest_more;
        same = r.1 ∙ f.same;
        bytes = take_more_set buffer i b k ∙ rw (f.bytes, value) (sym (bytes_more a i (tells s).device));
      }
    where
      rest_more : drop (i + 1) (set buffer i b) ≡ drop (i + 1) old
      rest_more =
          drop-set-lt (i + 1) buffer i b (omega arith) ∙ sym (drop-drop 1 i buffer) ∙ ap (drop 1) f.rest ∙ drop-drop 1 i old

  -- a front and the rest after it are the whole
  whole : {m : S} {i : ℕ} {buffer : List ℕ} → i ≤ length buffer → Front step tells a n old s i buffer m → buffer ≡ over (take i buffer) old
  whole {i = i} {buffer = buffer} h f =
      let long : length (take i buffer) ≡ i = length-take i buffer ∙ omega arith in
      sym (take-append-drop i buffer) ∙ rw long (ap (λ (xs : List ℕ). take i buffer ++ xs) f.rest)

  pub front_broken : {m t : S} {i : ℕ} {buffer : List ℕ} {e : Silence} → i < n → i < length buffer → Front step tells a n old s i buffer m → Performs step (reads (a + i)) m (Err e) t
      → Performs step (reads_row (rising a n)) s (Err e) t × (buffer ≡ over (bytes_at (rising a (e.address - a)) (tells s).device) old)
  front_broken {m = m} {t = t} {i = i} {buffer = buffer} {e = e} h k f p =
      let within : i < length (rising a n) = rw (rising_length a n) h in
      let silent = read_silent (a + i) m t e p in
      let count : e.address - a ≡ i = omega arith in (
        reading_broken (rising a n) s m t i (take i buffer) e within f.reading (rw (sym (rising_at a n i h)) at p),
        whole (omega arith) f ∙ rw (count, f.bytes) refl,
      )

  pub front_done : {m : S} {i : ℕ} {buffer : List ℕ} → i ≡ n → n ≡ length buffer → Front step tells a n old s i buffer m
      → Performs step (reads_row (rising a n)) s (Ok buffer) m × (buffer ≡ over buffer old)
  front_done {m = m} {i = i} {buffer = buffer} e h f =
      let all : take i buffer ≡ buffer = take_all i buffer (omega arith) in (
        rw all at (reading_done (rising a n) s m i (take i buffer) (rw (rising_length a n) (omega arith)) f.reading),
        rw all at (whole (omega arith) f),
      )
