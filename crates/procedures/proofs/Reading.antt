-- What a single read says of the line that it was sent down.
use Rattle.std.proofs.Common.{◌≡◌, ℕ, Ok, Err, Option, sym, ap, ◌∙◌, inl, inr, arith}
use Rattle.line.specs.declared.command.Command.{Command}
use Rattle.line.specs.declared.command.Reply.{Reply}
use Rattle.line.specs.State.{State, at}
use Rattle.line.specs.Rules.{Permitted}
use Rattle.procedures.specs.declared.silence.Silence.{Silence}
use Rattle.procedures.specs.Procedure.{reads}
use Rattle.procedures.specs.Performed.{Performed, performed}
use Rattle.procedures.specs.Performs.{Step, Goes, Performs, performs}
use Rattle.procedures.proofs.Carried.{carried}
use Rattle.procedures.proofs.Decided.{sendings_decide_the_outcome}
use Rattle.procedures.proofs.Left.{leaves}
use Rattle.procedures.proofs.Rows.{read_leaves}

module _ {S : Type 0} (step : Step S) (tells : S → State) (keeps : (s t : S) (c : Command) (r : Option Reply) → step s c r t → Permitted (tells s) c r (tells t)) where
  -- it gave the byte that memory holds, and left the device as it was
  pub read_told : (a b : ℕ) (s t : S) → Performs step (reads a) s (Ok b) t → (b ≡ at (tells s).device a) × ((tells t).device ≡ (tells s).device)
  read_told a b s t p =
      let i = sendings_decide_the_outcome ℕ (reads a) (tells s) (tells t) (Ok b) (carried step Permitted tells keeps (reads a) s t (Ok b) p) in
      let result : (performed (reads a) i.0 (tells s)).result ≡ Ok b = ap (λ (x : Performed ℕ). x.result) i.1 in
      let state : (performed (reads a) i.0 (tells s)).state ≡ tells t = ap (λ (x : Performed ℕ). x.state) i.1 in
      let l = leaves (reads a) i.0 (tells s) b result in
      let r = read_leaves a (tells s) (performed (reads a) i.0 (tells s)).state b l in
      (r.0, ap (λ (x : State). x.device) (sym state) ∙ r.1)

-- its silence tells its own address
pub read_silent : {S : Type 0} {step : Step S} (a : ℕ) (s t : S) (e : Silence) → Performs step (reads a) s (Err e) t → e.address ≡ a
unfolding Goes
read_silent a s t e (performs (inl (y, m, g, (same, result)))) = let z : ◌≡◌ {A = ℕ} 0 1 = cc in absurd (omega arith)
read_silent a s t e (performs (inr (x, (n, all, p, told), result))) = let same : e ≡ x = cc in ap (λ (z : Silence). z.address) (same ∙ told)
