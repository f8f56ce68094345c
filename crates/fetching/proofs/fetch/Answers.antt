use Rattle.std.proofs.Common.{◌≡◌, ◌≤◌, length, take, arith, ◌∙◌, length-take-le}
use Rattle.ports.proofs.Outcomes.{done}
use Rattle.fetching.specs.Into.{read_into}
use Rattle.fetching.proofs.Parts.{joined}
use Rattle.fetching.proofs.fetch.Goals as goal

pub returns : goal.returns
returns g c =
    let fits : c.args.count ≤ length c.args.buffer.now = grind arith in
    let long : length (take c.args.count c.args.buffer.now) ≡ c.args.count = length-take-le c.args.count c.args.buffer.now fits in
    let part = c.read_data-read.new.buffer in
    let read = read_into part c.read_data-read.result in
    let whole = joined c.args.address c.args.count c.args.buffer.now part (g.L.Line.state c.args.line.now) read fits (c.read_data-read.auto.buffer ∙ long) c.read_data-read.ensures.after in
    done g.met.L.Line.keeps (rw c.size.ensures at c.in_ok-refuse_fetch.ensures) (rw long at c.read_data-read.ensures.commands) (rw whole (grind arith)) c.settle_fetch.ensures.after
