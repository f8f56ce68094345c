-- What the printer line's device does of its own accord: it ends requests and reports itself.
use Rattle.std.specs.Prelude.{ℕ, ◌+◌, ◌-◌, Bool, false, cond, ◌&&◌, ◌||◌, Option, ◌==◌, nat_le}
use Rattle.tca.specs.Fields.{dpsstat, exfak}
use Rattle.line.specs.declared.command.Command.{Command}
use Rattle.line.specs.declared.command.Reply.{Reply}
use Rattle.line.specs.State.{Device}
use Rattle.lines.specs.declared.device_line.DeviceLine.{DeviceLine}
use Rattle.lines.specs.declared.printer.Printing.{Printing}
use Rattle.lines.specs.DeviceLine.{Own, next as next_of, answers as answers_of, Steps as StepsOf}
use Rattle.simulated.specs.Posts.{free, with_end, with_expedited}

abbrev pub Printer : Type 0
Printer = DeviceLine Printing

abbrev pub PrinterOwn : Type 0
PrinterOwn = Own Printing

-- A Poll ends the request in work if no further poll is to come before that, DPSSTAT is zero and no restart
-- waits; each earlier one counts one down.
abbrev pub over : Printing → Device → Bool
over p d = d.working && p.left == 0

abbrev pub ends_now : Printing → Device → Bool
ends_now p d = over p d && (free dpsstat d && d.working)

abbrev pub left_after : Printing → Device → ℕ
left_after p d = cond d.working (p.left - 1) p.left

abbrev pub device_ended : Printing → Device → Device
device_ended p d = cond (ends_now p d) (with_end p.end d) d

-- every tenth end makes an expedited status due
abbrev pub tenth : Printing → Device → Bool
tenth p d = ends_now p d && nat_le 9 p.ends

abbrev pub ends_after : Printing → Device → ℕ
ends_after p d = cond (ends_now p d) (cond (nat_le 9 p.ends) 0 (p.ends + 1)) p.ends

abbrev pub due_now : Printing → Device → Bool
due_now p d = p.due || tenth p d

-- a due one is posted if EXFAK is zero and no restart waits
abbrev pub reports_now : Printing → Device → Bool
reports_now p d = due_now p d && free exfak (device_ended p d)

abbrev pub acts : Printing → Device → Device
acts p d = cond (reports_now p d) (with_expedited p.status (device_ended p d)) (device_ended p d)

abbrev pub kept : Printing → Device → Printing
kept p d = record p {
  left = left_after p d;
  ends = ends_after p d;
  due = cond (reports_now p d) false (due_now p d);
}

-- the polls to come are the second parameter of the request that a Start makes the device take
abbrev pub takes : ℕ → Printing → Printing
takes second p = record p { left = second }

abbrev pub next : Command → PrinterOwn → PrinterOwn
next = next_of acts kept takes

abbrev pub answers : Command → PrinterOwn → Option Reply
answers = answers_of acts kept takes

-- one sending
abbrev pub Steps : Printer → Command → Option Reply → Printer → Type 0
Steps = StepsOf acts kept takes
