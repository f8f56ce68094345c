-- How the sendings of a log grow.
use Rattle.std.proofs.Common.{◌≡◌, ℕ, zero, suc, ◌+◌, ◌-◌, ◌^◌, ◌<◌, ◌≤◌, min, Bool, true, false, cond, ltb, List, [], ◌∷◌, ◌++◌, length, set, fold, get_or, slice_get, Some, None, Option, sym, refl, ap, ◌∙◌, append_assoc, append-nil, add-zero, add-one, arith, length-append}
use Rattle.std.proofs.lemmas.List.{set-get_or}
use Rattle.std.proofs.lemmas.Option.{get_or_from_slice_get}
use Rattle.std.specs.Option.{option_map}
use Rattle.line.specs.Sent.{Sending}
use Rattle.line.specs.declared.command.Command.{Command}
use Rattle.line.specs.declared.command.Command.TheVariants.{Poll, Read, Write, Start, Acknowledge, TerminalId, Reset}
use Rattle.line.specs.declared.command.Reply.{Reply}
use Rattle.linelog.specs.declared.Run.{Run}
use Rattle.linelog.specs.Runs.{advance, next_from, spell, spell_times, spell_all, once, once_more, Continues}

pub spell-all-++ : (xs ys : List Run) → spell_all (xs ++ ys) ≡ spell_all xs ++ spell_all ys
spell-all-++ [] ys = refl
spell-all-++ (x ∷ xs) ys = ap (λ (zs : List Sending). spell x ++ zs) (spell-all-++ xs ys) ∙ sym (append_assoc (spell x) (spell_all xs) (spell_all ys))

-- one more run at the end
pub spell_all_push : (xs : List Run) (x : Run) → spell_all (xs ++ x ∷ []) ≡ spell_all xs ++ spell x
spell_all_push xs x = spell-all-++ xs (x ∷ []) ∙ ap (λ (zs : List Sending). spell_all xs ++ zs) (append-nil (spell x))

at_address : (f : ℕ → Command) (d : Command) (b : Bool) (a : ℕ) → option_map f (cond b (Some a) None) ≡ Some d → f a ≡ d
at_address f d true a e = cc
at_address f d false a e = let z : ◌≡◌ {A = ℕ} 0 1 = cc in absurd (omega arith)

next_is_advanced : (c d : Command) (n : ℕ) → next_from c n ≡ Some d → advance c n ≡ d
next_is_advanced Poll d n e = cc
next_is_advanced (Read a) d n e = at_address Read d (ltb (a + n) (2 ^ 16)) (a + n) e
next_is_advanced (Write a v) d n e = at_address (λ b. Write b v) d (ltb (a + n) (2 ^ 16)) (a + n) e
next_is_advanced Start d n e = cc
next_is_advanced Acknowledge d n e = cc
next_is_advanced TerminalId d n e = cc
next_is_advanced Reset d n e = cc

spell_once_more : (x : Run) (c : Command) (r : Option Reply) → Continues x c r → spell (once_more x) ≡ spell x ++ (c, r) ∷ []
spell_once_more x c r on = rw (add-one x.times) (ap (λ (z : Sending). spell x ++ z ∷ []) (let e = next_is_advanced x.command c x.times on.1 in cc))

pub goes_on : (xs : List Run) (n : ℕ) (x : Run) (c : Command) (r : Option Reply) → length xs ≡ n + 1 → slice_get xs n ≡ Some x → Continues x c r → spell_all (set xs n (once_more x)) ≡ spell_all xs ++ (c, r) ∷ []
goes_on [] n x c r long last on = absurd (omega arith)
goes_on (y ∷ []) zero x c r long last on = let same : y ≡ x = cc in rw (same, append-nil (spell x), append-nil (spell (once_more x))) (spell_once_more x c r on)
goes_on (y ∷ z ∷ ys) zero x c r long last on = absurd (omega arith)
goes_on (y ∷ ys) (suc n) x c r long last on =
    ap (λ (zs : List Sending). spell y ++ zs) (goes_on ys n x c r (omega arith) last on) ∙ sym (append_assoc (spell y) (spell_all ys) ((c, r) ∷ []))

advance_none : (c : Command) → advance c 0 ≡ c
advance_none Poll = refl
advance_none (Read a) = ap Read (add-zero a)
advance_none (Write a v) = ap (λ (b : ℕ). Write b v) (add-zero a)
advance_none Start = refl
advance_none Acknowledge = refl
advance_none TerminalId = refl
advance_none Reset = refl

pub begins : (xs : List Run) (c : Command) (r : Option Reply) → spell_all (xs ++ once c r ∷ []) ≡ spell_all xs ++ (c, r) ∷ []
begins xs c r = spell_all_push xs (once c r) ∙ ap (λ (d : Command). spell_all xs ++ (d, r) ∷ []) (advance_none c)

-- what was read, written back
pub set_read : (xs : List Run) (n : ℕ) (x : Run) → x ≡ get_or xs n x → set xs n x ≡ xs
set_read xs n x e = ap (set xs n) e ∙ set-get_or xs n x

-- the last run, read by two ways
pub last_is : (xs : List Run) (n : ℕ) (x y : Run) → n ≡ length xs → 0 < n → y ≡ get_or xs (n - 1) y → slice_get xs (length xs - 1) ≡ Some x → y ≡ x
last_is xs n x y long some read last = read ∙ get_or_from_slice_get xs (n - 1) x y (rw long last)

-- counts
spell_length : (c : Command) (r : Option Reply) (n : ℕ) → length (spell_times c r n) ≡ n
spell_length c r zero = refl
spell_length c r (suc n) = length-append (spell_times c r n) ((advance c n, r) ∷ []) ∙ ap (λ (k : ℕ). k + 1) (spell_length c r n) ∙ add-one n

pub counted : (sent : ℕ) (xs : List Run) → sent ≤ 2 ^ 64 - 1 → fold (λ sent x. min (sent + x.times) (2 ^ 64 - 1)) sent xs ≡ min (2 ^ 64 - 1) (sent + length (spell_all xs))
counted sent [] h = omega arith
counted sent (x ∷ xs) h =
    let rest = counted (min (sent + x.times) (2 ^ 64 - 1)) xs (omega arith) in
    omega (arith, rest, length-append (spell x) (spell_all xs), spell_length x.command x.reply x.times)
