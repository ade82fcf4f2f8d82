use Rattle.std.proofs.Common.{◌≡◌, ◌*◌, ◌^◌, ◌≤◌}
use Rattle.piece_moves.specs.DistributionView.{distribution_view}
use Rattle.piece_moves.specs.PieceMove.{words_over}
use Rattle.piece_moves.proofs.words.words_over.Given as goal

abbrev pub invariant-loop-k : goal.invariant-loop-k
invariant-loop-k l = record {
  words : l.words ≡ words_over l.rows l.columns (distribution_view l.to) l.k;
  bound : l.words ≤ l.k * 2 ^ 48;
}
