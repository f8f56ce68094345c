-- How what went grows by one sending.
use Rattle.std.proofs.Common.{◌≡◌, ℕ, ◌+◌, ◌<◌, ◌≤◌, Bool, true, false, ◌&&◌, ◌||◌, List, [], ◌∷◌, ◌++◌, length, get_or, take, is_some, is_err, Some, None, Ok, Err, Option, Result, sym, refl, ap, ◌∙◌, inl, inr, append_assoc, append-nil, arith, MatchResult}
use Rattle.std.proofs.lemmas.List.{take_more, take_all, length-take-le, length-map, length_push}
use Rattle.line.specs.Sent.{Sending, none, more}
use Rattle.line.specs.declared.command.Command.{Command}
use Rattle.line.specs.declared.command.Command.TheVariants.{Poll, Read}
use Rattle.line.specs.declared.command.Reply.{Reply}
use Rattle.line.specs.declared.command.Reply.TheVariants.{Done, Byte, Polled}
use Rattle.line.specs.Answers.{byte_in}
use Rattle.bringup.specs.Went.{Went, Broke, Ran, commands_of, all_answered, says_status, polls, any_status, PolledUntil, reads, Gathered, whole, cut}

module _ {S : Type 0} {step : S → Command → Option Reply → S → Type 0} where
  pub went_none : {P : List Sending → Type 0} {s : S} {log : List Sending} → P [] → Went step s log s log P
  went_none {log = log} p = record { zs = []; sent = none; noted = sym (append-nil log); such = p }

  pub went_more : {P Q : List Sending → Type 0} {s m t : S} {before mid after : List Sending} {c : Command} {q : Option Reply} → Went step s before m mid P
      → step m c q t × (after ≡ mid ++ (c, q) ∷ []) → ((zs : List Sending) → P zs → Q (zs ++ (c, q) ∷ [])) → Went step s before t after Q
  went_more {before = before} {c = c} {q = q} went one so = record {
    zs = went.zs ++ (c, q) ∷ [];
    sent = more went.sent one.0;
    noted = one.1 ∙ ap (λ (xs : List Sending). xs ++ (c, q) ∷ []) went.noted ∙ append_assoc before went.zs ((c, q) ∷ []);
    such = so went.zs went.such;
  }

  -- the same, where it is known whether an answer came
  pub went_on : {P Q : List Sending → Type 0} {s m t : S} {before mid after : List Sending} {c : Command} {b came : Bool} → Went step s before m mid P
      → (q : Option Reply) × step m c q t × (after ≡ mid ++ (c, q) ∷ []) × (is_some q ≡ b) → b ≡ came → ((q : Option Reply) → is_some q ≡ came → (zs : List Sending) → P zs → Q (zs ++ (c, q) ∷ [])) → Went step s before t after Q
  went_on went one e so = went_more went (one.1, one.2) (so one.0 (one.3 ∙ e))

  pub went_so : {P Q : List Sending → Type 0} {s t : S} {before after : List Sending} → Went step s before t after P → ((zs : List Sending) → P zs → Q zs) → Went step s before t after Q
  went_so went so = record { zs = went.zs; sent = went.sent; noted = went.noted; such = so went.zs went.such }

  -- memory ran out after a sending, or elsewhere
  pub broke_after : {P : List Sending → Type 0} {s m t : S} {before mid after : List Sending} {c : Command} → Went step s before m mid P
      → (q : Option Reply) × step m c q t × (after ≡ mid) → Broke step s before t after
  broke_after {m = m} {c = c} went one = record {
    m = m;
    went = record { zs = went.zs; sent = went.sent; noted = one.2 ∙ went.noted; such = tt };
    last = inr (c, one.0, one.1);
  }

  pub broke_there : {P : List Sending → Type 0} {s t : S} {before after : List Sending} → Went step s before t after P → Broke step s before t after
  broke_there {t = t} went = record { m = t; went = went_so went (λ zs p. tt); last = inl refl }

-- commands that go in order
commands_push : (zs : List Sending) (c : Command) (q : Option Reply) → commands_of (zs ++ (c, q) ∷ []) ≡ commands_of zs ++ c ∷ []
commands_push [] c q = refl
commands_push (z ∷ zs) c q = ap (λ (cs : List Command). z.0 ∷ cs) (commands_push zs c q)

answered_push : (zs : List Sending) (c : Command) (q : Option Reply) → all_answered zs ≡ true → is_some q ≡ true → all_answered (zs ++ (c, q) ∷ []) ≡ true
answered_push [] c q e f = rw f refl
answered_push (z ∷ zs) c q e f = both (is_some z.1) (all_answered zs) (all_answered (zs ++ (c, q) ∷ [])) e (λ g. answered_push zs c q g f)
  where
    both : (a b d : Bool) → (a && b) ≡ true → (b ≡ true → d ≡ true) → (a && d) ≡ true
    both true b d e f = f e
    both false b d e f = e

abbrev pub Sofar : List Command → ℕ → List Sending → Type 0
Sofar cs i zs = (commands_of zs ≡ take i cs) × (all_answered zs ≡ true)

pub ran_more : (cs : List Command) (i : ℕ) (d : Command) → i < length cs → (q : Option Reply) → is_some q ≡ true → (zs : List Sending) → Sofar cs i zs → Sofar cs (i + 1) (zs ++ (get_or cs i d, q) ∷ [])
ran_more cs i d h q some zs p =
    (commands_push zs (get_or cs i d) q ∙ ap (λ (xs : List Command). xs ++ get_or cs i d ∷ []) p.0 ∙ sym (take_more cs i d h), answered_push zs (get_or cs i d) q p.1 some)

unanswered : (q : Option Reply) → is_some q ≡ false → q ≡ None
unanswered None e = refl
unanswered (Some r) e = let z : ◌≡◌ {A = ℕ} 0 1 = cc in absurd (omega arith)

pub ran_stops : (cs : List Command) (i : ℕ) (d : Command) → i < length cs → (q : Option Reply) → is_some q ≡ false → (zs : List Sending) → Sofar cs i zs → Ran cs false (zs ++ (get_or cs i d, q) ∷ [])
ran_stops cs i d h q none_came zs p =
    let c = get_or cs i d in
    let e = unanswered q none_came in
    let long : length (zs ++ (c, q) ∷ []) ≡ i + 1 = length_push zs (c, q) ∙ ap (λ (n : ℕ). n + 1) (sym (length-map zs (λ z. z.0)) ∙ ap length p.0 ∙ length-take-le i cs (omega arith)) in
    (zs, c, ap (λ (x : Option Reply). zs ++ (c, x) ∷ []) e, p.1, commands_push zs c q ∙ ap (λ (xs : List Command). xs ++ c ∷ []) p.0 ∙ sym (take_more cs i d h) ∙ ap (λ (n : ℕ). take n cs) (sym long))

pub ran_all : (cs : List Command) (i : ℕ) → length cs ≤ i → (zs : List Sending) → Sofar cs i zs → Ran cs true zs
ran_all cs i h zs p = (p.0 ∙ take_all i cs h, p.1)

-- polls
polls_push : (rs : List (Option Reply)) (r : Option Reply) → polls (rs ++ r ∷ []) ≡ polls rs ++ (Poll, r) ∷ []
polls_push [] r = refl
polls_push (x ∷ rs) r = ap (λ (zs : List Sending). (Poll, x) ∷ zs) (polls_push rs r)

status_push : (rs : List (Option Reply)) (r : Option Reply) → any_status rs ≡ false → says_status r ≡ false → any_status (rs ++ r ∷ []) ≡ false
status_push [] r e f = rw f refl
status_push (x ∷ rs) r e f = neither (says_status x) (any_status rs) (any_status (rs ++ r ∷ [])) e (λ g. status_push rs r g f)
  where
    neither : (a b d : Bool) → (a || b) ≡ false → (b ≡ false → d ≡ false) → (a || d) ≡ false
    neither true b d e f = e
    neither false b d e f = f e

abbrev pub Quiet : ℕ → List Sending → Type 0
Quiet n zs = (rs : List (Option Reply)) × (zs ≡ polls rs) × (any_status rs ≡ false) × (length rs ≡ n)

pub polled_more : (n : ℕ) (q : Option Reply) → false ≡ says_status q → (zs : List Sending) → Quiet n zs → Quiet (n + 1) (zs ++ (Poll, q) ∷ [])
polled_more n q e zs p =
    (p.0 ++ q ∷ [], ap (λ (xs : List Sending). xs ++ (Poll, q) ∷ []) p.1 ∙ sym (polls_push p.0 q), status_push p.0 q p.2 (sym e), length_push p.0 q ∙ ap (λ (k : ℕ). k + 1) p.3)

pub polled_status : (n : ℕ) (q : Option Reply) → n < 32 → true ≡ says_status q → (zs : List Sending) → Quiet n zs → PolledUntil 32 true (zs ++ (Poll, q) ∷ [])
polled_status n q h e zs p = (p.0, q, ap (λ (xs : List Sending). xs ++ (Poll, q) ∷ []) p.1 ∙ sym (polls_push p.0 q), p.2, sym e, rw p.3 h)

-- reads of a record
reads_push : (ps bs : List ℕ) (b : ℕ) → length bs < length ps → reads ps (bs ++ b ∷ []) ≡ reads ps bs ++ (Read (get_or ps (length bs) 0), Some (Byte b)) ∷ []
reads_push [] bs b h = absurd (omega arith)
reads_push (p ∷ []) [] b h = refl
reads_push (p ∷ x ∷ ps) [] b h = refl
reads_push (p ∷ ps) (x ∷ bs) b h = ap (λ (zs : List Sending). (Read p, Some (Byte x)) ∷ zs) (reads_push ps bs b (omega arith))

abbrev pub ReadSofar : List ℕ → List ℕ → ℕ → List Sending → Type 0
ReadSofar ps bs i zs = (zs ≡ reads ps bs) × (length bs ≡ i)

nothing_read : (ps : List ℕ) → [] ≡ reads ps []
nothing_read [] = refl
nothing_read (p ∷ ps) = refl

pub read_none : (ps bs : List ℕ) → bs ≡ [] → ReadSofar ps bs 0 []
read_none ps bs e = rw e (nothing_read ps, refl)

read_reply : (q : Option Reply) (b : ℕ) → byte_in q ≡ Some b → q ≡ Some (Byte b)
read_reply None b e = let z : ◌≡◌ {A = ℕ} 0 1 = cc in absurd (omega arith)
read_reply (Some Done) b e = let z : ◌≡◌ {A = ℕ} 0 1 = cc in absurd (omega arith)
read_reply (Some (Byte x)) b e = cc
read_reply (Some (Polled p)) b e = let z : ◌≡◌ {A = ℕ} 0 1 = cc in absurd (omega arith)

-- what was read, from a table xs that holds the places
pub read_more : (xs ps bs cs : List ℕ) (i b : ℕ) (q : Option Reply) → xs ≡ ps → i < length xs → byte_in q ≡ Some b → cs ≡ bs ++ b ∷ [] → (zs : List Sending) → ReadSofar ps bs i zs → ReadSofar ps cs (i + 1) (zs ++ (Read (get_or xs i 0), q) ∷ [])
read_more xs ps bs cs i b q same h e f zs p =
    let long = ap length same in
    let pushed = reads_push ps bs b (omega arith) in
    let reply = read_reply q b e in
    let n = p.1 in
    (rw (p.0, reply, f, pushed, n, same) refl, ap length f ∙ length_push bs b ∙ ap (λ (k : ℕ). k + 1) n)

pub read_stops : {R : Type 0} (xs ps bs : List ℕ) (of : List ℕ → Option R) (i : ℕ) (q : Option Reply) → xs ≡ ps → i < length xs → byte_in q ≡ None → (zs : List Sending) → ReadSofar ps bs i zs → Gathered ps of None (zs ++ (Read (get_or xs i 0), q) ∷ [])
read_stops xs ps bs of i q same h e zs p =
    let long = ap length same in
    let n = p.1 in
    cut bs q (omega arith) (rw (p.0, same, n) refl) e refl

pub read_all : {R : Type 0} (ps bs : List ℕ) (of : List ℕ → Option R) (i : ℕ) (r : Option R) → i ≡ length ps → r ≡ of bs → (zs : List Sending) → ReadSofar ps bs i zs → Gathered ps of r zs
read_all ps bs of i r h e zs p = whole bs (p.1 ∙ h) p.0 e

-- the exit of a `?`
pub broken_off : {R E B : Type 0} (P : R → Type 0) (r : Result R E) → is_err r ≡ true → B → MatchResult r P (λ _. B)
broken_off P (Ok x) e b = let z : ◌≡◌ {A = ℕ} 0 1 = cc in absurd (omega arith)
broken_off P (Err x) e b = b
