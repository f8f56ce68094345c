-- From a call of the unit at one line to a step among all of them.
use Rattle.std.proofs.Common.{◌≡◌, ℕ, ◌<◌, min, List, length, get_or, set, slice_get, inl, inr, refl, ◌∙◌, arith}
use Rattle.codes.specs.declared.attachment.Attachment.{Attachment}
use Rattle.codes.specs.declared.number.Refusal.TheVariants.{PortTooHigh}
use Rattle.line.specs.State.{State}
use Rattle.line.specs.Rules.{Lawful}
use Rattle.procedures.specs.Performs.{Step as Sends}
use Rattle.ports.specs.declared.port.Port.{Port}
use Rattle.ports.specs.Port.{new_port}
use Rattle.ports.specs.Asked.{Asked, AnswerTo, configure, attach, poll, request, collect, take, expedite, fetch, drop, call}
use Rattle.ports.specs.Frame.{Here, Nowhere, Called, DoneAt}
use Rattle.counts.specs.Run.{Step}
use Rattle.hall.specs.Lines.{told}
use Rattle.hall.proofs.Telling.{told_at, told_set, told_other, told_same, told_lawful}

-- a port that there isn't is refused alike, whatever a line tells
refused_alike : (m : Attachment) (q : Asked) (t u : State) → (call m q new_port t).refusal PortTooHigh ≡ (call m q new_port u).refusal PortTooHigh
refused_alike m (configure ts) t u = refl
refused_alike m attach t u = refl
refused_alike m poll t u = refl
refused_alike m (request r bs) t u = refl
refused_alike m collect t u = refl
refused_alike m take t u = refl
refused_alike m (expedite response) t u = refl
refused_alike m (fetch address long buffer) t u = refl
refused_alike m drop t u = refl

module _ {S : Type 0} {tells : S → State} (always : (s : S) → Lawful (tells s)) (xs : List S) (i : ℕ) (d : S) {m : Attachment} {p : ℕ} {q : Asked} {ks : List Port} {a : AnswerTo q} {ks' : List Port} {s' : S} where
  at_its_line : i < length xs → i ≡ p → Here m p q ks (tells (get_or xs i d)) a ks' (tells s') → Step m p q ks (told tells xs) a ks' (told tells (set xs i s'))
  at_its_line h e x =
      let before : told tells xs p ≡ tells (get_or xs i d) = rw (← e) (told_at tells xs i d h) in
      let after : told tells (set xs i s') p ≡ tells s' = rw (← e) (told_set tells xs i s' h) in
      record {
        lawful = told_lawful tells always (slice_get xs p);
        call = rw (before, after) (inl x);
        spared = λ r n. told_other tells xs i r s' (λ z. n (z ∙ e));
      }

  at_no_port : Nowhere m p q ks (tells (get_or xs i d)) a ks' (tells s') → Step m p q ks (told tells xs) a ks' (told tells (set xs i s'))
  at_no_port x = record {
    lawful = told_lawful tells always (slice_get xs p);
    call = inr (record {
      past = x.past;
      refused = x.refused ∙ refused_alike m q (tells (get_or xs i d)) (told tells xs p);
      same_ports = x.same_ports;
      same_line = told_same tells xs i s' d x.same_line p;
    });
    spared = λ r n. told_same tells xs i s' d x.same_line r;
  }

  by_outcome : length xs ≡ 32 → length ks ≡ 32 → i ≡ min p 31 → Called m p q ks (tells (get_or xs i d)) a ks' (tells s') → Step m p q ks (told tells xs) a ks' (told tells (set xs i s'))
  by_outcome h k e (inl x) = let b = x.there in at_its_line (omega arith) (omega arith) x
  by_outcome h k e (inr x) = at_no_port x

  pub stepped : {step : Sends S} → length xs ≡ 32 → length ks ≡ 32 → i ≡ min p 31 → DoneAt step tells m p q ks (get_or xs i d) a ks' s' → Step m p q ks (told tells xs) a ks' (told tells (set xs i s'))
  stepped h k e x = by_outcome h k e x.outcome
