-- What a line of a hall does: what the line inside does, whichever it is.
use Rattle.std.specs.Prelude.{◌≡◌, Bool, true, false, Option}
use Rattle.tca.specs.declared.status.Event.{Event}
use Rattle.tca.specs.declared.status.SynchronousStatus.{SynchronousStatus}
use Rattle.line.specs.declared.command.Command.{Command}
use Rattle.line.specs.declared.command.Reply.{Reply}
use Rattle.line.specs.State.{State}
use Rattle.simulated.specs.Simulated.{state_of}
use Rattle.lines.specs.DeviceLine.{own as device_own}
use Rattle.lines.specs.Terminal.{Terminal as TerminalLine, with_told_event, with_told_end, next as terminal_next, answers as terminal_answers, TerminalOwn, Steps as TerminalSteps}
use Rattle.lines.specs.Printer.{Printer as PrinterLine, next as printer_next, answers as printer_answers, PrinterOwn, Steps as PrinterSteps}
use Rattle.losing.specs.Loss.{Loses, told_over, OwnOver, next_over, answers_over, shows_over}
use Rattle.losing.specs.declared.losing.Losing.{Losing}
use Rattle.hallline.specs.declared.HallLine.{HallLine}
use Rattle.hallline.specs.declared.HallLine.TheVariants.{Terminal, Printer, LosingTerminal, LosingPrinter}

abbrev pub state : HallLine → State
state (Terminal s) = state_of s.device
state (Printer s) = state_of s.device
state (LosingTerminal s) = told_over (state_of s.below.device) s.row
state (LosingPrinter s) = told_over (state_of s.below.device) s.row

-- A line of a hall stays of its kind: from a relation for each kind, the one that relates only lines of one
-- kind, by the relation of that kind.
abbrev pub Within : (TerminalLine → TerminalLine → Type 0) → (PrinterLine → PrinterLine → Type 0) → (Losing TerminalLine → Losing TerminalLine → Type 0) → (Losing PrinterLine → Losing PrinterLine → Type 0)
    → HallLine → HallLine → Type 0
Within T P Lt LP (Terminal s) (Terminal t) = T s t
Within T P Lt LP (Terminal s) (Printer t) = ⊥
Within T P Lt LP (Terminal s) (LosingTerminal t) = ⊥
Within T P Lt LP (Terminal s) (LosingPrinter t) = ⊥
Within T P Lt LP (Printer s) (Terminal t) = ⊥
Within T P Lt LP (Printer s) (Printer t) = P s t
Within T P Lt LP (Printer s) (LosingTerminal t) = ⊥
Within T P Lt LP (Printer s) (LosingPrinter t) = ⊥
Within T P Lt LP (LosingTerminal s) (Terminal t) = ⊥
Within T P Lt LP (LosingTerminal s) (Printer t) = ⊥
Within T P Lt LP (LosingTerminal s) (LosingTerminal t) = Lt s t
Within T P Lt LP (LosingTerminal s) (LosingPrinter t) = ⊥
Within T P Lt LP (LosingPrinter s) (Terminal t) = ⊥
Within T P Lt LP (LosingPrinter s) (Printer t) = ⊥
Within T P Lt LP (LosingPrinter s) (LosingTerminal t) = ⊥
Within T P Lt LP (LosingPrinter s) (LosingPrinter t) = LP s t

-- what a losing line does over a line with these steps
abbrev pub LosingSteps : {L : Type 0} → (L → Command → Option Reply → L → Type 0) → Losing L → Command → Option Reply → Losing L → Type 0
LosingSteps step s c r t = Loses (λ s r t. step s c r t) s.marks s.next s.row s.below r t.below t.marks t.next t.row

-- one sending
abbrev pub Steps : HallLine → Command → Option Reply → HallLine → Type 0
Steps s c r t = Within (λ s t. TerminalSteps s c r t) (λ s t. PrinterSteps s c r t) (λ s t. LosingSteps TerminalSteps s c r t) (λ s t. LosingSteps PrinterSteps s c r t) s t

-- whether its device is one that is told what to post
abbrev pub is_told : HallLine → Bool
is_told (Terminal s) = true
is_told (Printer s) = false
is_told (LosingTerminal s) = true
is_told (LosingPrinter s) = false

-- the line below changes, and what the losing line itself keeps stays
abbrev pub Below : {L : Type 0} → (L → L → Type 0) → Losing L → Losing L → Type 0
Below related s t = related s.below t.below × (t.marks ≡ s.marks) × (t.next ≡ s.next) × (t.row ≡ s.row)

-- a terminal is told, a printer stays as it is
abbrev pub Told : (TerminalLine → TerminalLine → Type 0) → HallLine → HallLine → Type 0
Told related s t = Within related (λ s t. t ≡ s) (Below related) (λ s t. t ≡ s) s t

abbrev pub EventTold : HallLine → Event → HallLine → Type 0
EventTold s e t = Told (λ s t. device_own t ≡ with_told_event e (device_own s)) s t

abbrev pub EndTold : HallLine → SynchronousStatus → HallLine → Type 0
EndTold s e t = Told (λ s t. device_own t ≡ with_told_end e (device_own s)) s t

-- what it keeps of itself, by kind
pub data Own : Type 0 where
  terminal : TerminalOwn → Own
  printer : PrinterOwn → Own
  losing_terminal : OwnOver TerminalOwn → Own
  losing_printer : OwnOver PrinterOwn → Own

abbrev pub own_over : {L O : Type 0} → (L → O) → Losing L → OwnOver O
own_over own s = record { below = own s.below; marks = s.marks; next = s.next; row = s.row }

abbrev pub own : HallLine → Own
own (Terminal s) = terminal (device_own s)
own (Printer s) = printer (device_own s)
own (LosingTerminal s) = losing_terminal (own_over device_own s)
own (LosingPrinter s) = losing_printer (own_over device_own s)

abbrev pub shows : Own → State
shows (terminal o) = o.state
shows (printer o) = o.state
shows (losing_terminal o) = shows_over (λ o. o.state) o
shows (losing_printer o) = shows_over (λ o. o.state) o

abbrev pub next : Command → Own → Own
next c (terminal o) = terminal (terminal_next c o)
next c (printer o) = printer (printer_next c o)
next c (losing_terminal o) = losing_terminal (next_over terminal_next terminal_answers c o)
next c (losing_printer o) = losing_printer (next_over printer_next printer_answers c o)

abbrev pub answers : Command → Own → Option Reply
answers c (terminal o) = terminal_answers c o
answers c (printer o) = printer_answers c o
answers c (losing_terminal o) = answers_over terminal_answers c o
answers c (losing_printer o) = answers_over printer_answers c o
