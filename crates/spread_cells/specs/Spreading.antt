-- How a matrix is spread over the pieces of a grid.
use Rattle.std.specs.Prelude.{◌≡◌, ℕ, zero, suc, ◌+◌, ◌*◌, ◌/◌, ◌%◌, ◌<◌, max, ℤ, pos, List, [], ◌∷◌, ◌++◌, length, Option, Some, None, ◌==◌, if◌then◌else◌, map, slice_get, slice_index_or}
use Rattle.std.specs.List.{range_with_len}
use Rattle.index_tools.specs.Spread.{Spread, owner}
use Rattle.index_tools.specs.Home.{Layout, row_spread, column_spread, local_rows, local_columns, home}
use Rattle.mm_grammar.specs.Matrix.{Matrix}

-- the leading dimension of a piece of process row p, and the columns of one of process column q
abbrev pub piece_rows : Layout → ℕ → ℕ
piece_rows l p = max 1 (local_rows l p)

abbrev pub piece_columns : Layout → ℕ → ℕ
piece_columns l q = max 1 (local_columns l q)

-- the element of row i and column j, both counted from 0
abbrev pub element : Matrix → ℕ → ℕ → ℤ
element m i j = slice_index_or m.values (j * m.rows + i) (pos 0)

-- the indices below n that the process owns, in increasing order
unfoldable pub owned : Spread → (process n : ℕ) → List ℕ
owned s process zero = []
owned s process (suc n) = owned s process n ++ (if owner s n == process then n ∷ [] else [])

-- the element in a row and a column, and 0 where one of them isn't there
abbrev pub element_at : Matrix → Option ℕ → Option ℕ → ℤ
element_at m (Some i) (Some j) = element m i j
element_at m (Some i) None = pos 0
element_at m None j = pos 0

-- the word at a place of an array that holds these rows and columns of the matrix, in this order
abbrev pub word_at : Matrix → (rows columns : List ℕ) → ℕ → ℤ
word_at m rows columns place = element_at m (slice_get rows (place % max 1 (length rows))) (slice_get columns (place / max 1 (length rows)))

-- the array of these rows and columns; where there are none of them it has one row or column of zeros
abbrev pub array_of : Matrix → (rows columns : List ℕ) → Matrix
array_of m rows columns = record {
  rows = max 1 (length rows);
  columns = max 1 (length columns);
  values = map (word_at m rows columns) (range_with_len 0 (max 1 (length rows) * max 1 (length columns)));
}

-- the local array of piece (p, q): the rows and the columns that lie there
abbrev pub piece_cells : Matrix → Layout → (p q : ℕ) → Matrix
piece_cells m l p q = array_of m (owned (row_spread l) p l.rows) (owned (column_spread l) q l.columns)

-- These words spread the matrix over piece (p, q): each element that has its home there stands there, and each place that
-- is the home of no element holds 0.
pub record IsSpread (m : Matrix) (l : Layout) (p q : ℕ) (words : List ℤ) : Type 0 where
  pub size : length words ≡ piece_rows l p * piece_columns l q
  pub held : (i j place : ℕ) → i < l.rows → j < l.columns → home l (λ r c. piece_rows l r) i j ≡ record { row = p; column = q; place = place } → slice_index_or words place (pos 0) ≡ element m i j
  pub padding : (place : ℕ) → place < length words → ((i j : ℕ) → i < l.rows → j < l.columns → home l (λ r c. piece_rows l r) i j ≡ record { row = p; column = q; place = place } → ⊥) → slice_index_or words place (pos 0) ≡ pos 0

-- The array of every piece spreads the matrix over it.
pub record SpreadsByHome : Type 0 where
  pub spreads : (m : Matrix) (l : Layout) (p q : ℕ) → IsSpread m l p q (piece_cells m l p q).values
