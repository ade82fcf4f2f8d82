-- A piece of a matrix as the code holds it: the whole matrix, and which rows and columns lie in the piece.
use Rattle.std.specs.Prelude.{◌≡◌, ◌*◌, max, length}
use Rattle.std.proofs.lemmas.List.FromFn.{length-map-range_with_len}
use Rattle.mm_grammar.specs.Matrix.{Matrix}
use Rattle.mm_text.specs.Loading.{matrix_of}
use Rattle.spread_cells.specs.Spreading.{word_at, array_of}
use Rattle.spread_cells.specs.declared.piece.PieceCells.{PieceCells}

abbrev pub piece_matrix : PieceCells → Matrix
piece_matrix p = array_of (matrix_of p.whole.now) p.rows.now p.columns.now

pub piece_whole : (p : PieceCells) → length (piece_matrix p).values ≡ (piece_matrix p).rows * (piece_matrix p).columns
piece_whole p = length-map-range_with_len (word_at (matrix_of p.whole.now) p.rows.now p.columns.now) 0 (max 1 (length p.rows.now) * max 1 (length p.columns.now))
