use Rattle.std.proofs.Common.{◌≡◌, vec_items}
use Rattle.std.specs.Iterator.Adapters.{zip_first, zip_second}
use Rattle.std.specs.Slice.Iter.{iter_rest}
use Rattle.line.specs.Posts.{put_row}
use Rattle.simulated.proofs.memory.Memory.post.Given as goal

-- what is still to be put into place makes of memory what the whole would have made of it
abbrev pub invariant-loop-place : goal.invariant-loop-place
invariant-loop-place l =
    put_row (iter_rest (zip_first l.place-iterator)) (iter_rest (zip_second l.place-iterator)) (vec_items l.self.bytes) ≡ put_row l.fn.places l.fn.bytes (vec_items l.initial.self.bytes)
