use Rattle.std.proofs.Common.{◌+◌, ◌*◌, slice_index, refl}
use Rattle.proc_grid.proofs.GridLemmas.{map-range_pushed}
use Rattle.proc_grid.proofs.context.every.Goals as goal

pub loop-k-preserved : goal.loop-k-preserved
loop-k-preserved c = map-range_pushed (λ k. slice_index c.args.ranks.now (c.args.first + k * c.args.step)) _ _ c.loop-k.k _ c.in_ok-push.ensures.items c.loop-k.invariant refl
