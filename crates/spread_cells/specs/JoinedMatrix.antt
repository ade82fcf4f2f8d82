-- The matrix that a spread matrix is.
use Rattle.std.specs.Prelude.{◌≡◌, ◌*◌, ◌/◌, ◌%◌, length}
use Rattle.std.proofs.lemmas.List.FromFn.{length-map-range_with_len}
use Rattle.mm_grammar.specs.Matrix.{Matrix}
use Rattle.spread_cells.specs.Joining.{Joined, joined, home_word}

abbrev pub matrix_of : Joined → Matrix
matrix_of c = joined c.layout c.arrays

pub matrix_whole : (c : Joined) → length (matrix_of c).values ≡ (matrix_of c).rows * (matrix_of c).columns
matrix_whole c = length-map-range_with_len (λ k. home_word c.layout c.arrays (k % c.layout.rows) (k / c.layout.rows)) 0 (c.layout.rows * c.layout.columns)
