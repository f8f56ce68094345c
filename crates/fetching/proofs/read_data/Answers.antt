use Rattle.std.proofs.Common.{arith}
use Rattle.std.proofs.lemmas.List.{set-get_or}
use Rattle.std.proofs.lemmas.Result.{err_from_is_err_and}
use Rattle.fetching.proofs.Front.{front_begins, front_more, front_broken, front_done}
use Rattle.fetching.proofs.read_data.Goals as goal

pub loop-i-init : goal.loop-i-init
loop-i-init g c = front_begins

pub returns-in_err-byte : goal.returns-in_err-byte
returns-in_err-byte g c =
    let q = err_from_is_err_and c.from_residual.result c.from_residual.ensures.1 in
    let f = front_broken (omega arith) (omega arith) c.loop-i.invariant c.in_err-byte.ensures in
    rw (set-get_or c.loop-i.buffer c.loop-i.i 0, q.1, q.2) (record { commands = f.0; after = f.1 })

pub loop-i-preserved : goal.loop-i-preserved
loop-i-preserved g c = front_more g.met.L.Line.keeps (omega arith) (omega arith) c.loop-i.invariant c.in_ok-byte.ensures

pub returns : goal.returns
returns g c =
    let f = front_done (omega arith) (omega arith) c.loop-i.invariant in
    record { commands = f.0; after = f.1 }
