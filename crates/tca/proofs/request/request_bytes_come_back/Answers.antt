use Rattle.std.proofs.Common.{◌≡◌, ◌+◌, ◌*◌, ◌/◌, ◌%◌, ◌<◌, get_or, arith}
use Rattle.tca.specs.Bytes.{reads_all}
use Rattle.tca.proofs.request.request_bytes_come_back.Goals as goal

pub returns : goal.returns
returns c bs e small =
    let low : get_or bs 7 0 < 256 = small 7 in
    let high : (get_or bs 6 0 * 256 + get_or bs 7 0) / 256 ≡ get_or bs 6 0 = omega arith in
    let rest : (get_or bs 6 0 * 256 + get_or bs 7 0) % 256 ≡ get_or bs 7 0 = omega arith in
    rw (high, rest) (reads_all 8 bs e)
