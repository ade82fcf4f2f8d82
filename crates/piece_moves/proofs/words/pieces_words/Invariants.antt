use Rattle.std.proofs.Common.{◌≡◌, ◌*◌, ◌^◌, ◌≤◌, take}
use Rattle.std.specs.Prelude.{map}
use Rattle.piece_grammar.specs.Pieces.{words_of}
use Rattle.piece_file.specs.PieceView.{piece_view}
use Rattle.piece_moves.proofs.words.pieces_words.Given as goal

abbrev pub invariant-loop-piece : goal.invariant-loop-piece
invariant-loop-piece l = record {
  words : l.words ≡ words_of (map piece_view (take l.piece-index l.pieces));
  bound : l.words ≤ l.piece-index * 2 ^ 26;
}
