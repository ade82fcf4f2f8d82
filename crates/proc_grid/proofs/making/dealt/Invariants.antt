use Rattle.std.proofs.Common.{◌≡◌, ◌/◌, ◌%◌, map}
use Rattle.std.specs.List.{range_with_len}
use Rattle.proc_grid.specs.Refusals.{dealt_rank}
use Rattle.proc_grid.proofs.making.dealt.Given as goal

abbrev pub invariant-loop-place : goal.invariant-loop-place
invariant-loop-place l = l.ranks.items ≡ map (λ k. dealt_rank l.order l.nprow l.npcol (k / l.npcol) (k % l.npcol)) (range_with_len 0 l.place)
