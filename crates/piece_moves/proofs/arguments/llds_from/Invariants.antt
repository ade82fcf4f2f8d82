use Rattle.std.proofs.Common.{◌≡◌, take}
use Rattle.std.specs.Prelude.{map}
use Rattle.piece_file.specs.PieceView.{piece_view}
use Rattle.piece_moves.specs.PieceMove.{llds_from}
use Rattle.piece_moves.proofs.arguments.llds_from.Given as goal

abbrev pub invariant-loop-piece : goal.invariant-loop-piece
invariant-loop-piece l = l.llds.items ≡ llds_from (map piece_view (take l.piece-index l.pieces))
