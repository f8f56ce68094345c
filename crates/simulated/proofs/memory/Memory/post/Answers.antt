use Rattle.std.proofs.Common.{ℕ, List, set, sym, ap, ◌∙◌}
use Rattle.std.proofs.lemmas.Slice.Zip.{either_empty_from_Zip}
use Rattle.line.proofs.Rows.{row_ends}
use Rattle.simulated.proofs.memory.Memory.post.Goals as goal

pub returns : goal.returns
returns c =
    let done = either_empty_from_Zip c.loop-place.place-iterator c.next.new.self c.next.result c.in-None.is c.next.ensures.steps in
    c.set-2.ensures.after ∙ ap (λ (m : List ℕ). set m c.args.toggle 1) (sym (row_ends _ _ _ done) ∙ c.loop-place.invariant)
