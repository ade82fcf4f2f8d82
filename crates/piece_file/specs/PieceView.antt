-- A piece as the code holds it.
use Rattle.pack_words.specs.LocalCells.{LocalCells}
use Rattle.mm_grammar.specs.Matrix.{Matrix}
use Rattle.piece_grammar.specs.Head as piece
use Rattle.piece_file.specs.HeadView.{head_view}
use Rattle.piece_file.specs.declared.piece.Piece.{Piece}

-- a head and its array
abbrev pub array_piece : piece.Head → LocalCells → piece.Piece
array_piece head cells = record { head = head; words = cells.words }

-- a head and the values of a matrix
abbrev pub matrix_piece : piece.Head → Matrix → piece.Piece
matrix_piece head m = record { head = head; words = m.values }

abbrev pub piece_view : Piece → piece.Piece
piece_view p = record { head = head_view p.head; words = p.cells.words }
