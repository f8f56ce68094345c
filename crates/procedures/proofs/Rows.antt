-- What rows of reads and of writes leave, once they went through.
use Rattle.std.proofs.Common.{◌≡◌, ℕ, zero, suc, ◌+◌, ◌-◌, ◌<◌, ◌≤◌, false, eqb, List, [], ◌∷◌, length, get_or, sym, refl, ap, ◌∙◌, add-one, add-zero, arith, ne_eqb}
use Rattle.line.specs.State.{Device, State, at}
use Rattle.line.specs.Rules.{is_in, bytes_at}
use Rattle.line.specs.Posts.{put_row}
use Rattle.procedures.specs.Procedure.{reads, writes, reads_row, writes_row, byte_of, rising}
use Rattle.procedures.specs.Leaves.{Leaves}

-- a device with other memory
abbrev pub with_memory : List ℕ → Device → Device
with_memory m d = record { memory = m; waiting = d.waiting; working = d.working; seen = d.seen; last = d.last; taken = d.taken; events = d.events; expedited = d.expedited }

pub read_leaves : (a : ℕ) (t u : State) (v : ℕ) → Leaves (reads a) t v u → (v ≡ at t.device a) × (u.device ≡ t.device)
read_leaves a t u v (y, m, l, (e, f)) =
    let same : u.device ≡ t.device = ap (λ (x : State). x.device) f ∙ l.1 in
    let value : v ≡ at m.device a = e ∙ ap byte_of l.2 in
    (value ∙ ap (λ (d : Device). at d a) l.1, same)

pub write_leaves : (a v : ℕ) (t u : State) (x : Unit {0}) → Leaves (writes a v) t x u → u.device ≡ with_memory (put_row (a ∷ []) (v ∷ []) t.device.memory) t.device
write_leaves a v t u x (y, m, l, (e, f)) = ap (λ (s : State). s.device) f ∙ l.1

pub reads_leave : (ps : List ℕ) (t u : State) (bs : List ℕ) → Leaves (reads_row ps) t bs u → (bs ≡ bytes_at ps t.device) × (u.device ≡ t.device)
reads_leave [] t u bs (e, f) = (e, ap (λ (x : State). x.device) f)
reads_leave (p ∷ ps) t u bs (b, m, first, (cs, n, rest, (e, f))) =
    let i = read_leaves p t m b first in
    let j = reads_leave ps m n cs rest in
    let same : n.device ≡ t.device = j.1 ∙ i.1 in
    let front = i.0 in
    let tail : cs ≡ bytes_at ps t.device = j.0 ∙ ap (bytes_at ps) i.1 in
    (rw (e, front, tail) refl, ap (λ (x : State). x.device) f ∙ same)

pub writes_leave : (ps bs : List ℕ) (t u : State) (x : Unit {0}) → Leaves (writes_row ps bs) t x u → u.device ≡ with_memory (put_row ps bs t.device.memory) t.device
writes_leave [] bs t u x (e, f) = ap (λ (s : State). s.device) f
writes_leave (p ∷ ps) [] t u x (e, f) = ap (λ (s : State). s.device) f
writes_leave (p ∷ ps) (b ∷ bs) t u x (y, m, first, rest) =
    let i = write_leaves p b t m y first in
    let j = writes_leave ps bs m u x rest in
    j ∙ ap (λ (d : Device). with_memory (put_row ps bs d.memory) d) i

-- what is left of a rising row, up to below n
pub rising_next : (a n : ℕ) → a < n → rising a (n - a) ≡ a ∷ rising (a + 1) (n - (a + 1))
unfolding rising
rising_next a n h = let e : n - a ≡ suc (n - suc a) = omega arith in rw (add-one a, e) refl

pub none_rising : (a n : ℕ) → n ≤ a → rising a (n - a) ≡ []
unfolding rising
none_rising a n h = let e : n - a ≡ 0 = omega arith in rw e refl

-- a rising row has no address below its first
pub rising_from : (a n j : ℕ) → j < a → is_in (rising a n) j ≡ false
unfolding rising
rising_from a zero j h = refl
rising_from a (suc n) j h = let e : eqb j a ≡ false = ne_eqb j a (λ s. omega arith) in rw e (rising_from (suc a) n j (omega arith))

pub rising_length : (a n : ℕ) → length (rising a n) ≡ n
unfolding rising
rising_length a zero = refl
rising_length a (suc n) = ap suc (rising_length (suc a) n)

pub rising_at : (a n i : ℕ) → i < n → get_or (rising a n) i 0 ≡ a + i
unfolding rising
rising_at a zero i h = let z : ⊥ = omega arith in absurd z
rising_at a (suc n) zero h = sym (add-zero a)
rising_at a (suc n) (suc i) h = let e : suc a + i ≡ a + suc i = omega arith in rising_at (suc a) n i (omega arith) ∙ e
