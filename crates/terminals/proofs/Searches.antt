-- What a search through the terminals finds is what its definition says.
use Rattle.std.proofs.Common.{◌≡◌, ℕ, zero, suc, ◌+◌, ◌/◌, ◌&&◌, ◌||◌, not, eqb, List, [], ◌∷◌, length, drop, ap, sym, ◌∙◌, refl, arith}
use Rattle.std.specs.List.{list_any, list_all, zip, enumerate_from}
use Rattle.std.proofs.lemmas.Bool.Decides.{nat_tests}
use Rattle.std.proofs.lemmas.List.{drop-drop}
use Rattle.std.proofs.lemmas.List.Recursion.{same_from_clauses}
use Rattle.line.specs.Rules.{is_in}
use Rattle.ports.specs.Port.{no_terminal}
use Rattle.ports.specs.Terminals.{none_configured, some_equal, among, all_configured, has_bit}

pub all_none : (ts : List ℕ) → list_all (λ t. eqb t no_terminal) ts ≡ none_configured ts
all_none = same_from_clauses _ _ (λ t b. eqb t no_terminal && b) refl (λ _ _. refl) (λ _ _. refl)

pub is_in_any : (ps : List ℕ) (a : ℕ) → is_in ps a ≡ list_any (λ p. eqb p a) ps
is_in_any [] a = refl
is_in_any (p ∷ ps) a = rw (is_in_any ps a) (grind (arith, nat_tests))

-- one of some terminals, the first at a place in the list of all, has the address of a later one
pub any_equal : (all ts : List ℕ) (place : ℕ) → drop place all ≡ ts → list_any (λ p. not (eqb p.1 no_terminal) && list_any (λ q. eqb q p.1) (drop (p.0 + 1) all)) (enumerate_from place ts) ≡ some_equal ts
any_equal all [] place e = refl
any_equal all (t ∷ ts) place e =
    let rest : drop (place + 1) all ≡ ts = sym (drop-drop 1 place all) ∙ ap (drop 1) e in
    rw (rest, is_in_any ts t, any_equal all ts (place + 1) rest) refl

-- a bit, and each next half of it
abbrev pub halves : ℕ → ℕ → List ℕ
halves bit zero = []
halves bit (suc n) = bit ∷ halves (bit / 2) n

pub any_among : (bit : ℕ) (ts : List ℕ) (set a : ℕ) → list_any (λ p. eqb p.0 a && has_bit set p.1) (zip ts (halves bit (length ts))) ≡ among bit ts set a
any_among bit [] set a = refl
any_among bit (t ∷ ts) set a = ap (λ b. (eqb t a && has_bit set bit) || b) (any_among (bit / 2) ts set a)

pub all_all_configured : (bit : ℕ) (ts : List ℕ) (set : ℕ) → list_all (λ p. not (has_bit set p.1 && eqb p.0 no_terminal)) (zip ts (halves bit (length ts))) ≡ all_configured bit ts set
all_all_configured bit [] set = refl
all_all_configured bit (t ∷ ts) set = ap (λ b. not (has_bit set bit && eqb t no_terminal) && b) (all_all_configured (bit / 2) ts set)
