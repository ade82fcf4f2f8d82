use Rattle.std.proofs.Common.{List, ap, ◌∙◌}
use Rattle.std.specs.Prelude.{map, slice_index_or}
use Rattle.std.specs.List.{range_with_len}
use Rattle.pack_words.specs.LocalCells.{LocalCells, zeros}
use Rattle.pack_words.specs.GridState.{arrays_held}
use Rattle.piece_file.specs.HeadView.{head_view}
use Rattle.piece_file.specs.PieceView.{piece_view}
use Rattle.piece_moves.specs.DistributionView.{distribution_view}
use Rattle.piece_moves.specs.PieceMove.{array_of, zeros_for}
use Rattle.piece_moves.proofs.ListLaws.{memories_are}
use Rattle.piece_moves.proofs.arrays.memories.Goals as goal

pub returns : goal.returns
returns c =
    let xs : List LocalCells = map array_of (map piece_view c.args.pieces.items) in
    memories_are (map arrays_held c.in_ok-nodes.nodes.items) xs c.in_ok-sources.sources.items (zeros_for (head_view c.args.first.now) (distribution_view c.args.to.now)) c.args.ranks
    (c.in_ok-sources.ensures ∙ ap (λ (l : List LocalCells). map (λ r. slice_index_or l r (zeros 1 0)) (range_with_len 0 c.args.ranks)) c.in_ok-arrays.ensures) c.in_ok-nodes.ensures
