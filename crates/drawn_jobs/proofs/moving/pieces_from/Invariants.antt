use Rattle.std.proofs.Common.{◌≡◌}
use Rattle.std.specs.Prelude.{map}
use Rattle.std.specs.List.{range_with_len}
use Rattle.pack_words.specs.GridState.{arrays_held}
use Rattle.piece_file.specs.PieceView.{piece_view}
use Rattle.piece_moves.specs.DistributionView.{distribution_view}
use Rattle.drawn_jobs.specs.Dealing.{piece_after}
use Rattle.drawn_jobs.proofs.moving.pieces_from.Given as goal

abbrev pub invariant-loop-k : goal.invariant-loop-k
invariant-loop-k l = record { pieces : map piece_view l.pieces.items ≡ map (piece_after (distribution_view l.to) l.first.m l.first.n (map arrays_held l.moved.nodes.items)) (range_with_len 0 l.k) }
