use Rattle.std.proofs.Common.{◌≡◌}
use Rattle.std.specs.Prelude.{map}
use Rattle.std.specs.List.{range_with_len}
use Rattle.mm_text.specs.Loading.{matrix_of}
use Rattle.piece_file.specs.PieceView.{piece_view}
use Rattle.piece_moves.specs.DistributionView.{distribution_view}
use Rattle.drawn_jobs.specs.Dealing.{piece_at}
use Rattle.drawn_jobs.proofs.dealing.deal.Given as goal

abbrev pub invariant-loop-k : goal.invariant-loop-k
invariant-loop-k l = record { pieces : map piece_view l.pieces.items ≡ map (piece_at (distribution_view l.to) (matrix_of l.whole)) (range_with_len 0 l.k) }
