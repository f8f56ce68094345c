-- From a call on one port to the table.
use Rattle.std.proofs.Common.{◌≡◌, ℕ, ◌<◌, List, length, get_or, set, subst, inl, length-set, get_or-set_other, get_or-set_same}
use Rattle.std.proofs.lemmas.List.{get_or_default}
use Rattle.codes.specs.declared.attachment.Attachment.{Attachment}
use Rattle.line.specs.State.{State}
use Rattle.procedures.specs.Performs.{Step}
use Rattle.ports.specs.declared.port.Port.{Port}
use Rattle.ports.specs.Port.{new_port}
use Rattle.ports.specs.Call.{Outcome, Done}
use Rattle.ports.specs.Asked.{Asked, AnswerTo, call}
use Rattle.ports.specs.Frame.{Here, Called, DoneAt, port_at}

module _ (m : Attachment) (q : Asked) (ks : List Port) (i : ℕ) (a : AnswerTo q) (k' : Port) where
  -- the table with one record changed
  here : (t t' : State) → i < length ks → Outcome (call m q (port_at ks i) t) (port_at ks i) t a k' t' → Here m i q ks t a (set ks i k') t'
  here t t' h o = record {
    there = h;
    outcome = rw (get_or-set_same ks i k' new_port h) o;
    others = λ r e. get_or-set_other ks i r k' new_port e;
    as_many = length-set ks i k';
  }

  -- at an index that is the port's number, whatever stands for a record that is not there
  pub called_at : {p : ℕ} {t t' : State} (d : Port) → (i ≡ p) × (i < length ks) → Outcome (call m q (get_or ks i d) t) (get_or ks i d) t a k' t' → Called m p q ks t a (set ks i k') t'
  called_at {t = t} {t' = t'} d (e, h) o = subst (λ z. Called m z q ks t a (set ks i k') t') e (inl (here t t' h (rw (get_or_default ks i d new_port h) at o)))

  pub served_at : {S : Type 0} {step : Step S} {tells : S → State} {p : ℕ} {s s' : S} (d : Port) → (i ≡ p) × (i < length ks) → Done step tells (call m q (get_or ks i d) (tells s)) (get_or ks i d) s a k' s' → DoneAt step tells m p q ks s a (set ks i k') s'
  served_at {step = step} {tells = tells} {s = s} {s' = s'} d (e, h) x =
      let y : Done step tells (call m q (port_at ks i) (tells s)) (port_at ks i) s a k' s' = rw (get_or_default ks i d new_port h) at x in
      subst (λ z. DoneAt step tells m z q ks s a (set ks i k') s') e (record { commands = inl (h, y.commands); outcome = inl (here (tells s) (tells s') h y.outcome) })
