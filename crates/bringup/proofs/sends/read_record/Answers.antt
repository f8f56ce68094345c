use Rattle.std.proofs.Common.{length, sym, ap, ◌∙◌, arith}
use Rattle.bringup.proofs.Wents.{went_none, went_more, went_so, read_none, broke_after, broke_there, read_more, read_stops, read_all, broken_off}
use Rattle.bringup.proofs.sends.read_record.Goals as goal

pub loop-place-init : goal.loop-place-init
loop-place-init g c = went_none (read_none g.F.Family.places c.new-bytes.result.items c.new-bytes.ensures.items)

pub returns-in_err-reply : goal.returns-in_err-reply
returns-in_err-reply g c = broken_off _ c.from_residual.result c.from_residual.ensures.0 (broke_after c.loop-place.invariant c.in_err-reply.ensures)

pub returns-in_default : goal.returns-in_default
returns-in_default g c =
    went_more c.loop-place.invariant c.in_ok-reply.ensures
    (read_stops c.places.result g.F.Family.places _ g.F.Family.of c.loop-place.place-index _ c.places.ensures (omega arith) (sym c.to_byte.ensures ∙ c.in_default.is))

pub returns-in_err-push : goal.returns-in_err-push
returns-in_err-push g c =
    broken_off _ c.from_residual-in_err-push.result c.from_residual-in_err-push.ensures.0 (broke_there (went_more {Q = λ _. Unit {0}} c.loop-place.invariant c.in_ok-reply.ensures (λ zs p. tt)))

pub loop-place-preserved : goal.loop-place-preserved
loop-place-preserved g c =
    went_more c.loop-place.invariant c.in_ok-reply.ensures
    (read_more c.places.result g.F.Family.places _ _ c.loop-place.place-index c.in-Some.byte _ c.places.ensures (omega arith) (sym c.to_byte.ensures ∙ c.in-Some.is) c.in_ok-push.ensures.items)

pub returns : goal.returns
returns g c =
    let same = ap length c.places.ensures in
    went_so c.loop-place.invariant (read_all g.F.Family.places _ g.F.Family.of c.loop-place.place-index _ (omega arith) (rw c.deref.ensures.value at c.from_slice.ensures))
