-- What was sent decides what a call comes to.
use Rattle.std.proofs.Common.{◌≡◌, None, Option, Result, sym, ap, ◌∙◌}
use Rattle.line.specs.declared.command.Command.{Command}
use Rattle.line.specs.declared.command.Reply.{Reply}
use Rattle.line.specs.State.{State}
use Rattle.line.specs.Rules.{Permitted}
use Rattle.procedures.specs.declared.silence.Silence.{Silence}
use Rattle.procedures.specs.Performed.{Performed, performed}
use Rattle.procedures.specs.Performs.{Step, Performs}
use Rattle.procedures.proofs.Carried.{carried}
use Rattle.procedures.proofs.Decided.{sendings_decide_the_outcome}
use Rattle.ports.specs.declared.port.Port.{Port}
use Rattle.ports.specs.Call.{Call, Done}

-- a call that was not refused, and whose procedure was performed
pub done : {S X : Type 0} {step : Step S} {tells : S → State} {c : Call X} {k k' : Port} {s s' : S} {r : Result c.Found Silence} {a : X}
    → ((s t : S) (c : Command) (r : Option Reply) → step s c r t → Permitted (tells s) c r (tells t))
    → None ≡ c.refused → Performs step c.procedure s r s' → a ≡ c.answers r → k' ≡ c.after a → Done step tells c k s a k' s'
done {step = step} {tells = tells} {c = c} {s = s} {s' = s'} {r = r} keeps h p answer after =
    let i = sendings_decide_the_outcome c.Found c.procedure (tells s) (tells s') r (carried step Permitted tells keeps c.procedure s s' r p) in
    let result : (performed c.procedure i.0 (tells s)).result ≡ r = ap (λ (x : Performed c.Found). x.result) i.1 in
    let state : (performed c.procedure i.0 (tells s)).state ≡ tells s' = ap (λ (x : Performed c.Found). x.state) i.1 in
    let none : c.refused ≡ None = sym h in
    record { commands = rw none (r, p, answer); outcome = rw none (i.0, answer ∙ ap c.answers (sym result), after, sym state) }
