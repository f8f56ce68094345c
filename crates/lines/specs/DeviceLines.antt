-- A simulated device keeps the rules, whatever its program, since what the program does is allowed.
use Rattle.std.specs.Prelude.{◌≡◌, ℕ, ◌≤◌, length, Some, Option}
use Rattle.std.proofs.Common.{refl, ap}
use Rattle.line.specs.declared.command.Command.{Command}
use Rattle.line.specs.declared.command.Command.TheVariants.{Poll, Read, Write, Start, Acknowledge, TerminalId, Reset}
use Rattle.line.specs.declared.command.Reply.{Reply}
use Rattle.line.specs.declared.command.Reply.TheVariants.{Polled}
use Rattle.line.specs.State.{Device, State}
use Rattle.line.specs.Rules.{Permitted, says}
use Rattle.lines.specs.declared.device_line.DeviceLine.{DeviceLine}
use Rattle.simulated.specs.Simulated.{obliging, state_of}
use Rattle.lines.specs.Acting.{MayAct}
use Rattle.lines.specs.DeviceLine.{Own, Steps}

poll_permitted : (t u : State) (r : Option Reply) (d : Device) → MayAct t.device d → u ≡ record { device = d; row = 0 } → r ≡ Some (Polled (says d)) → Permitted t Poll r u
poll_permitted t u r d (ch, a, w) e q = (ch, rw (e, w, a) refl, rw (q, w, a) refl)

module _ {P : Type 0} (acts : P → Device → Device) (kept : P → Device → P) (takes : ℕ → P → P) (allowed : (p : P) (d : Device) → 256 ≤ length d.memory → MayAct d (acts p d)) where
  pub keeps : (s t : DeviceLine P) (c : Command) (r : Option Reply) → Steps acts kept takes s c r t → Permitted (state_of s.device) c r (state_of t.device)
  keeps s t Poll r (e, q) =
      let d = (state_of s.device).device in
      poll_permitted (state_of s.device) (state_of t.device) r (acts s.program d) (allowed s.program d (rw s.device.memory.bytes.ok.0 at s.device.memory.large)) (ap (λ (o : Own P). o.state) e) q
  keeps s t (Read a) r (e, q) = (obliging, ap (λ (o : Own P). o.state) e, q)
  keeps s t (Write a v) r (e, q) = (obliging, ap (λ (o : Own P). o.state) e, q)
  keeps s t Start r (e, q) = (obliging, ap (λ (o : Own P). o.state) e, q)
  keeps s t Acknowledge r (e, q) = (obliging, ap (λ (o : Own P). o.state) e, q)
  keeps s t TerminalId r (e, q) = (obliging, ap (λ (o : Own P). o.state) e, q)
  keeps s t Reset r (e, q) = (obliging, ap (λ (o : Own P). o.state) e, q)
