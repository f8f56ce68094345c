use Rattle.std.proofs.Common.{◌≡◌, ◌+◌, ◌-◌, ◌^◌, min, rules, fold, arith}
use Rattle.std.proofs.iter.runs.Made.{chains}
use Rattle.linelog.proofs.Spelled.{counted}
use Rattle.linelog.proofs.methods.count.Goals as goal

pub returns : goal.returns
returns c =
    let e : c.fold.result ≡ fold (λ sent x. min (sent + x.times) (2 ^ 64 - 1)) 0 c.args.runs.now = search (rules, chains) in
    let sum = counted 0 c.args.runs.now (omega arith) in
    omega arith
