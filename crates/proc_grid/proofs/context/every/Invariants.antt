use Rattle.std.proofs.Common.{◌≡◌, ◌+◌, ◌*◌, map, slice_index}
use Rattle.std.specs.List.{range_with_len}
use Rattle.proc_grid.proofs.context.every.Given as goal

abbrev pub invariant-loop-k : goal.invariant-loop-k
invariant-loop-k l = l.picked.items ≡ map (λ k. slice_index l.ranks (l.first + k * l.step)) (range_with_len 0 l.k)
