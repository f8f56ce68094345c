use Rattle.std.proofs.Common.{false, ap}
use Rattle.line.specs.State.{State}
use Rattle.lines.proofs.printer.Printer.new.Goals as goal

-- said outright, since the search would write out all of memory
pub returns : goal.returns
returns c = ap (λ (t : State). record { state = t; program = record { left = 0; ends = 0; due = false; end = c.args.end; status = c.args.status } }) c.in_ok-device.ensures
