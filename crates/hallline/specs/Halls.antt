-- A line of a hall keeps the rules and leaves no choice, since each line inside does.
use Rattle.std.specs.Prelude.{◌≡◌, Option, refl}
use Rattle.std.proofs.Common.{ap, rules}
use Rattle.line.specs.declared.command.Command.{Command}
use Rattle.line.specs.declared.command.Reply.{Reply}
use Rattle.line.specs.Rules.{Permitted, Lawful}
use Rattle.simulated.specs.Simulated.{state_of}
use Rattle.simulated.specs.declared.device.SimulatedDevice.{SimulatedDevice}
use Rattle.lines.specs.DeviceLine.{own as device_own}
use Rattle.lines.specs.DeviceLines.{keeps as device_keeps}
use Rattle.lines.specs.Terminal.{Terminal as TerminalLine, next as terminal_next, answers as terminal_answers, Steps as TerminalSteps, acts as terminal_acts, kept as terminal_kept, takes as terminal_takes}
use Rattle.lines.specs.Terminals.{allowed as terminal_allowed}
use Rattle.lines.specs.Printer.{Printer as PrinterLine, next as printer_next, answers as printer_answers, Steps as PrinterSteps, acts as printer_acts, kept as printer_kept, takes as printer_takes}
use Rattle.lines.specs.Printers.{allowed as printer_allowed}
use Rattle.losing.specs.declared.losing.Losing.{Losing}
use Rattle.losing.specs.Losses.{keeps_over, lawful_over, determined_over}
use Rattle.hallline.specs.declared.HallLine.{HallLine}
use Rattle.hallline.specs.declared.HallLine.TheVariants.{Terminal, Printer, LosingTerminal, LosingPrinter}
use Rattle.hallline.specs.Hall.{state, Within, Steps, own, shows, next, answers, terminal, printer, losing_terminal, losing_printer}

-- what holds of each kind holds of what relates only lines of one kind
module _ {T : TerminalLine → TerminalLine → Type 0} {P : PrinterLine → PrinterLine → Type 0} {Lt : Losing TerminalLine → Losing TerminalLine → Type 0} {LP : Losing PrinterLine → Losing PrinterLine → Type 0}
    (Q : HallLine → HallLine → Type 0)
    (f : (s t : TerminalLine) → T s t → Q (Terminal s) (Terminal t)) (g : (s t : PrinterLine) → P s t → Q (Printer s) (Printer t))
    (h : (s t : Losing TerminalLine) → Lt s t → Q (LosingTerminal s) (LosingTerminal t)) (k : (s t : Losing PrinterLine) → LP s t → Q (LosingPrinter s) (LosingPrinter t)) where
  within_each : (s t : HallLine) → Within T P Lt LP s t → Q s t
  within_each (Terminal s) (Terminal t) w = f s t w
  within_each (Terminal s) (Printer t) w = absurd w
  within_each (Terminal s) (LosingTerminal t) w = absurd w
  within_each (Terminal s) (LosingPrinter t) w = absurd w
  within_each (Printer s) (Terminal t) w = absurd w
  within_each (Printer s) (Printer t) w = g s t w
  within_each (Printer s) (LosingTerminal t) w = absurd w
  within_each (Printer s) (LosingPrinter t) w = absurd w
  within_each (LosingTerminal s) (Terminal t) w = absurd w
  within_each (LosingTerminal s) (Printer t) w = absurd w
  within_each (LosingTerminal s) (LosingTerminal t) w = h s t w
  within_each (LosingTerminal s) (LosingPrinter t) w = absurd w
  within_each (LosingPrinter s) (Terminal t) w = absurd w
  within_each (LosingPrinter s) (Printer t) w = absurd w
  within_each (LosingPrinter s) (LosingTerminal t) w = absurd w
  within_each (LosingPrinter s) (LosingPrinter t) w = k s t w

pub terminal_keeps : (s t : TerminalLine) (c : Command) (r : Option Reply) → TerminalSteps s c r t → Permitted (state_of s.device) c r (state_of t.device)
terminal_keeps = device_keeps terminal_acts terminal_kept terminal_takes terminal_allowed

pub printer_keeps : (s t : PrinterLine) (c : Command) (r : Option Reply) → PrinterSteps s c r t → Permitted (state_of s.device) c r (state_of t.device)
printer_keeps = device_keeps printer_acts printer_kept printer_takes printer_allowed

device_lawful : (d : SimulatedDevice) → Lawful (state_of d)
device_lawful d = search rules

pub lawful : (s : HallLine) → Lawful (state s)
lawful (Terminal s) = device_lawful s.device
lawful (Printer s) = device_lawful s.device
lawful (LosingTerminal s) = lawful_over (state_of s.below.device) s.row s.held (device_lawful s.below.device)
lawful (LosingPrinter s) = lawful_over (state_of s.below.device) s.row s.held (device_lawful s.below.device)

pub keeps : (s t : HallLine) (c : Command) (r : Option Reply) → Steps s c r t → Permitted (state s) c r (state t)
keeps s t c r w =
    within_each (λ s t. Permitted (state s) c r (state t))
    (λ s t w. terminal_keeps s t c r w)
    (λ s t w. printer_keeps s t c r w)
    (λ s t w. keeps_over TerminalSteps (λ s. state_of s.device) terminal_keeps s.marks s.next s.row s.below c r t.below t.marks t.next t.row w)
    (λ s t w. keeps_over PrinterSteps (λ s. state_of s.device) printer_keeps s.marks s.next s.row s.below c r t.below t.marks t.next t.row w)
    s t w

pub determined : (s t : HallLine) (c : Command) (r : Option Reply) → Steps s c r t → (own t ≡ next c (own s)) × (r ≡ answers c (own s))
determined s t c r w =
    within_each (λ s t. (own t ≡ next c (own s)) × (r ≡ answers c (own s)))
    (λ s t w. (ap terminal w.0, w.1))
    (λ s t w. (ap printer w.0, w.1))
    (λ s t w.
    let d = determined_over TerminalSteps device_own terminal_next terminal_answers (λ s t c r w. w) s.marks s.next s.row s.below c r t.below t.marks t.next t.row w in
    (ap losing_terminal d.0, d.1))
    (λ s t w.
    let d = determined_over PrinterSteps device_own printer_next printer_answers (λ s t c r w. w) s.marks s.next s.row s.below c r t.below t.marks t.next t.row w in
    (ap losing_printer d.0, d.1))
    s t w

pub shown : (s : HallLine) → state s ≡ shows (own s)
shown (Terminal s) = refl
shown (Printer s) = refl
shown (LosingTerminal s) = refl
shown (LosingPrinter s) = refl
