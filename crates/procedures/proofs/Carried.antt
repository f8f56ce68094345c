-- What was sent down a line was sent by the rules, on what the line tells.
use Rattle.std.proofs.Common.{ℕ, Ok, Err, Option, Result, ap, inl, inr}
use Rattle.line.specs.declared.command.Command.{Command}
use Rattle.line.specs.declared.command.Reply.{Reply}
use Rattle.procedures.specs.declared.silence.Silence.{Silence}
use Rattle.procedures.specs.Procedure.{Procedure, gives, sends, once, thens}
use Rattle.procedures.specs.Performs.{Step, Unanswered, none, more, Sends, Goes, Performs, performs}

module _ {S T : Type 0} (step : Step S) (rule : Step T) (tells : S → T) (keeps : (s t : S) (c : Command) (r : Option Reply) → step s c r t → rule (tells s) c r (tells t)) where
  unanswered : {c : Command} {s t : S} {n : ℕ} → Unanswered step c s n t → Unanswered rule c (tells s) n (tells t)
  unanswered none = none
  unanswered (more p w) = more (unanswered p) (keeps _ _ _ _ w)

  sent : (c : Command) (s t : S) (r : Result Reply Silence) → Sends step c s r t → Sends rule c (tells s) r (tells t)
  sent c s t (Ok y) (n, m, few, p, w) = (n, tells m, few, unanswered p, keeps _ _ _ _ w)
  sent c s t (Err e) (n, all, p, told) = (n, all, unanswered p, told)

  goes : {A : Type 0} (p : Procedure A) (s t : S) (r : Result A Silence) → Goes step p s r t → Goes rule p (tells s) r (tells t)
  unfolding Goes
  goes (gives a) s t r (same, result) = (ap tells same, result)
  goes (sends c) s t r g = sent c s t r g
  goes (once c) s t r (y, w, result) = (y, keeps _ _ _ _ w, result)
  goes (thens p f) s t r (inl (a, m, g, h)) = inl (a, tells m, goes p s m (Ok a) g, goes (f a) m t r h)
  goes (thens p f) s t r (inr (e, g, result)) = inr (e, goes p s t (Err e) g, result)

  pub carried : {A : Type 0} (p : Procedure A) (s t : S) (r : Result A Silence) → Performs step p s r t → Performs rule p (tells s) r (tells t)
  carried p s t r (performs g) = performs (goes p s t r g)
