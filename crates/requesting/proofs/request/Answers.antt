use Rattle.std.proofs.Common.{length, arith}
use Rattle.ports.proofs.Refused.{request_fits}
use Rattle.ports.proofs.Outcomes.{done}
use Rattle.requesting.proofs.request.Goals as goal

pub send_request-begun-requires : goal.send_request-begun-requires
send_request-begun-requires g c =
    let small = (g.met.L.Line.lawful c.args.line.now).small in
    let size = c.size.ensures in
    request_fits c.args.port.now c.args.request c.size.result (length c.args.«data».now) c.in_ok-refuse_request.ensures (omega arith) (omega arith)

pub returns : goal.returns
returns g c =
    done g.met.L.Line.keeps (rw c.size.ensures at c.in_ok-refuse_request.ensures) (rw c.next_cusyn.ensures at c.send_request-begun.ensures) c.settle_request.ensures.value c.settle_request.ensures.after
