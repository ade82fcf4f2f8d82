-- Joining undoes spreading.
use Rattle.std.specs.Prelude.{◌≡◌, ℕ, ◌*◌, ◌/◌, ◌%◌, List, length, map}
use Rattle.std.specs.List.{range_with_len}
use Rattle.index_tools.specs.Home.{Layout, IsLayout}
use Rattle.pack_words.specs.LocalCells.{LocalCells}
use Rattle.mm_grammar.specs.Matrix.{Matrix}
use Rattle.spread_cells.specs.Spreading.{piece_rows, piece_columns, piece_cells}
use Rattle.spread_cells.specs.Joining.{joined}

-- the local array of piece (p, q)
abbrev pub local_array : Matrix → Layout → (p q : ℕ) → LocalCells
local_array m l p q = record { lld = piece_rows l p; cols = piece_columns l q; words = (piece_cells m l p q).values }

-- those of all pieces, by rows of the grid
abbrev pub local_arrays : Matrix → Layout → List LocalCells
local_arrays m l = map (λ k. local_array m l (k / l.npcol) (k % l.npcol)) (range_with_len 0 (l.nprow * l.npcol))

-- the layout is one of this matrix
pub record IsLayoutOf (l : Layout) (m : Matrix) : Type 0 where
  pub layout : IsLayout l
  pub rows : m.rows ≡ l.rows
  pub columns : m.columns ≡ l.columns
  pub count : length m.values ≡ l.rows * l.columns

-- The pieces of a matrix, joined, are the matrix.
pub record JoinsBack : Type 0 where
  pub back : (m : Matrix) (l : Layout) → IsLayoutOf l m → joined l (local_arrays m l) ≡ m
