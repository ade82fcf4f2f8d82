use Rattle.std.proofs.Common.{◌≡◌, ◌∷◌, [], length}
use Rattle.std.specs.Prelude.{map, slice_index_or}
use Rattle.std.specs.List.{range_with_len}
use Rattle.pack_words.specs.LocalCells.{zeros}
use Rattle.pack_words.specs.GridState.{arrays_held}
use Rattle.piece_file.specs.HeadView.{head_view}
use Rattle.piece_moves.specs.DistributionView.{distribution_view}
use Rattle.piece_moves.specs.PieceMove.{zeros_for}
use Rattle.piece_moves.proofs.arrays.nodes_of.Given as goal

abbrev pub invariant-loop-source : goal.invariant-loop-source
invariant-loop-source l = map arrays_held l.nodes.items ≡ map (λ r. slice_index_or l.yielded r (zeros 1 0) ∷ zeros_for (head_view l.first) (distribution_view l.to) r ∷ []) (range_with_len 0 (length l.yielded))
