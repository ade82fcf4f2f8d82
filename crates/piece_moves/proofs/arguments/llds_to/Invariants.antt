use Rattle.std.proofs.Common.{◌≡◌, pos}
use Rattle.std.specs.Prelude.{map}
use Rattle.std.specs.List.{range_with_len}
use Rattle.piece_moves.specs.Distribution.{head_over}
use Rattle.piece_moves.specs.DistributionView.{distribution_view}
use Rattle.piece_moves.proofs.arguments.llds_to.Given as goal

abbrev pub invariant-loop-k : goal.invariant-loop-k
invariant-loop-k l = l.llds.items ≡ map (λ k. pos (head_over (distribution_view l.to) l.first.m l.first.n k).lld) (range_with_len 0 l.k)
