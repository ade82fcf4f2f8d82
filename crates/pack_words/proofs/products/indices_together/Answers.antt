-- The next run.
use Rattle.std.proofs.Common.{arith}
use Rattle.pack_words.proofs.products.indices_together.Goals as goal

pub overflow_add-indices : goal.overflow_add-indices
overflow_add-indices c =
    let small = c.loop-run.invariant.small in
    let few = c.requires in
    omega arith
