-- The whole matrix that lies spread over the local arrays of a grid.
-- ScaLAPACK Users' Guide, "The Two-dimensional Block-Cyclic Distribution".
use Rattle.std.specs.Prelude.{◌≡◌, ℕ, ◌+◌, ◌*◌, ◌/◌, ◌%◌, ◌<◌, ◌≤◌, ℤ, pos, List, length, map, slice_index_or}
use Rattle.std.specs.List.{range_with_len}
use Rattle.index_tools.specs.Home.{Layout, Home, HasRoom, home, local_columns}
use Rattle.pack_words.specs.LocalCells.{LocalCells, zeros}
use Rattle.mm_grammar.specs.Matrix.{Matrix}

-- The arrays stand by rows of the grid: that of process (p, q) is array p * Q + q. A process without one has no words.
abbrev pub array_at : Layout → List LocalCells → (p q : ℕ) → LocalCells
array_at l arrays p q = slice_index_or arrays (p * l.npcol + q) (zeros 1 0)

-- the leading dimension on each process
abbrev pub leads : Layout → List LocalCells → (p q : ℕ) → ℕ
leads l arrays p q = (array_at l arrays p q).lld

-- the word at a place of a process's array
abbrev pub word_in : Layout → List LocalCells → Home → ℤ
word_in l arrays h = slice_index_or (array_at l arrays h.row h.column).words h.place (pos 0)

-- the word at the home of the element of row i and column j
abbrev pub home_word : Layout → List LocalCells → (i j : ℕ) → ℤ
home_word l arrays i j = word_in l arrays (home l (leads l arrays) i j)

-- the whole matrix: by columns, the word at the home of each element
abbrev pub joined : Layout → List LocalCells → Matrix
joined l arrays = record { rows = l.rows; columns = l.columns; values = map (λ k. home_word l arrays (k % l.rows) (k / l.rows)) (range_with_len 0 (l.rows * l.columns)) }

-- an array for each process of the grid, with room for the rows and the columns of the matrix that lie there
pub record HoldsSpread (l : Layout) (arrays : List LocalCells) : Type 0 where
  pub count : length arrays ≡ l.nprow * l.npcol
  pub rows_fit : HasRoom l (leads l arrays)
  pub columns_fit : (p q : ℕ) → p < l.nprow → q < l.npcol → local_columns l q ≤ (array_at l arrays p q).cols

-- These arrays spread the matrix: the word at the home of each element is the element.
pub record IsSpreadOver (l : Layout) (arrays : List LocalCells) (m : Matrix) : Type 0 where
  pub rows : m.rows ≡ l.rows
  pub columns : m.columns ≡ l.columns
  pub count : length m.values ≡ l.rows * l.columns
  pub homes : (i j : ℕ) → i < l.rows → j < l.columns → slice_index_or m.values (j * l.rows + i) (pos 0) ≡ home_word l arrays i j

-- Arrays spread one matrix, which is the joined one.
pub record JoinsByHome (l : Layout) (arrays : List LocalCells) : Type 0 where
  pub spread : IsSpreadOver l arrays (joined l arrays)
  pub only : (m : Matrix) → IsSpreadOver l arrays m → m ≡ joined l arrays

-- a spread matrix as contracts see it: how it is spread, and the arrays
pub record Joined : Type 0 where
  pub layout : Layout
  pub arrays : List LocalCells
