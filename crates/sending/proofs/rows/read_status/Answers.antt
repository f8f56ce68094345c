use Rattle.std.proofs.Common.{◌≡◌, ◌<◌, length, take, refl, sym, ap, ◌∙◌, arith, length-set}
use Rattle.std.proofs.lemmas.List.{take_all, take_more_set}
use Rattle.std.proofs.lemmas.Result.{err_from_is_err_and}
use Rattle.procedures.proofs.Steps.{reading_more, reading_broken, reading_done}
use Rattle.sending.proofs.rows.read_status.Goals as goal

pub returns-in_err-bytes : goal.returns-in_err-bytes
returns-in_err-bytes g c =
    let same = c.places.ensures in
    let here : c.loop-i.i < length g.F.Family.places = omega (arith, ap length same) in
    let q = err_from_is_err_and c.from_residual.result c.from_residual.ensures.1 in
    rw (q.1, q.2) (reading_broken g.F.Family.places c.args.line.now _ _ c.loop-i.i _ _ here c.loop-i.invariant.1 (rw same at c.in_err-bytes.ensures))

pub loop-i-preserved : goal.loop-i-preserved
loop-i-preserved g c =
    let same = c.places.ensures in
    let here : c.loop-i.i < length g.F.Family.places = omega (arith, ap length same) in
    let within : c.loop-i.i < length c.loop-i.bytes = omega arith in (
      length-set c.loop-i.bytes c.loop-i.i c.in_ok-bytes.field-0 ∙ c.loop-i.invariant.0,
      rw (take_more_set c.loop-i.bytes c.loop-i.i c.in_ok-bytes.field-0 within)
          (reading_more g.F.Family.places c.args.line.now _ _ c.loop-i.i c.in_ok-bytes.field-0 _ here c.loop-i.invariant.1 (rw same at c.in_ok-bytes.ensures)),
    )

-- all places were read, so the bytes are a record
pub unwrap-requires : goal.unwrap-requires
unwrap-requires g c =
    let there = g.met.F.Readable.every c.loop-i.bytes (omega (arith, ap length c.places.ensures)) in
    rw (c.from_slice.ensures, there.1) refl

pub returns : goal.returns
returns g c =
    let bytes = g.met.F.Family.whole c.loop-i.bytes c.unwrap.result (sym c.from_slice.ensures ∙ c.unwrap.ensures) in
    let all : take c.loop-i.i c.loop-i.bytes ≡ c.loop-i.bytes = take_all c.loop-i.i c.loop-i.bytes (omega arith) in
    rw bytes (rw all at (reading_done g.F.Family.places c.args.line.now c.loop-i.line c.loop-i.i _ (omega (arith, ap length c.places.ensures)) c.loop-i.invariant.1))
