use Rattle.std.proofs.Common.{◌<◌, length, min, arith}
use Rattle.hall.proofs.Telling.{kept_others, of_line}
use Rattle.hall.proofs.Stepping.{stepped}
use Rattle.hall.proofs.step.poll.Goals as goal

pub returns-clause-step : goal.returns-clause-step
returns-clause-step g c =
    let ports = c.size.ensures in
    stepped g.met.L.Line.lawful c.args.lines.now c.line_of.result _ c.told-lines (omega arith) c.line_of.ensures c.poll.ensures.outcome

pub returns-clause-outcome : goal.returns-clause-outcome
returns-clause-outcome g c =
    let long = c.told-lines in
    let e = c.line_of.ensures in
    let here : c.line_of.result < length c.args.lines.now = omega arith in
    of_line c.args.lines.now c.line_of.result (min c.args.port 31) c.poll.new.line c.index-lines-line_of.result _ c.line_of.ensures here c.poll.ensures.outcome

pub returns-clause-others : goal.returns-clause-others
returns-clause-others g c = rw (← c.line_of.ensures) (kept_others c.args.lines.now c.line_of.result c.poll.new.line)
