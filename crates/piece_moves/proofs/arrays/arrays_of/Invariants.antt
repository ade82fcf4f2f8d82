use Rattle.std.proofs.Common.{◌≡◌}
use Rattle.std.specs.Prelude.{map}
use Rattle.piece_file.specs.PieceView.{piece_view}
use Rattle.piece_moves.specs.PieceMove.{array_of}
use Rattle.piece_moves.proofs.arrays.arrays_of.Given as goal

abbrev pub invariant-loop-piece : goal.invariant-loop-piece
invariant-loop-piece l = l.arrays.items ≡ map array_of (map piece_view l.yielded)
