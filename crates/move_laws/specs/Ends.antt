-- What `split` begins with, and `join`, as states of grids: the matrix of a file lies on a 1 by 1 grid.
use Rattle.std.specs.Prelude.{◌≡◌, ◌≢◌, ℕ, ◌-◌, ◌*◌, max, pos, List, ◌++◌, length, replicate}
use Rattle.index_tools.specs.Home.{Layout}
use Rattle.proc_grid.specs.Grid.{Grid}
use Rattle.pack_words.specs.LocalCells.{LocalCells}
use Rattle.mm_grammar.specs.Matrix.{Matrix}
use Rattle.spread_cells.specs.Joining.{joined}
use Rattle.mr2d.specs.Homes.{SpreadArray, Arrays, rank_of, cells_of}
use Rattle.move_laws.specs.WholeMoves.{piece_array, HoldsPieces, AwaitsPieces, IsGridOf}

-- the matrix of a file is one block on a 1 by 1 grid
abbrev pub file_layout : Matrix → Layout
file_layout m = record { rows = m.rows; columns = m.columns; mb = max 1 m.rows; nb = max 1 m.columns; rsrc = 0; csrc = 0; nprow = 1; npcol = 1 }

-- its local array: the values by columns; where there are no elements, one row or column of zeros
abbrev pub file_cells : Matrix → LocalCells
file_cells m = record {
  lld = max 1 m.rows;
  cols = max 1 m.columns;
  words = m.values ++ replicate (max 1 m.rows * max 1 m.columns - m.rows * m.columns) (pos 0);
}

-- its array of that number over such a grid
abbrev pub file_array : ℕ → Grid → Matrix → SpreadArray
file_array array one m = piece_array array one (file_layout m)

-- Before a split: array a is the matrix of the file, on the one process of its grid; B awaits the pieces.
pub record IsSplitStart (m : Matrix) (one : Grid) (a : ℕ) (b : SpreadArray) (arrays : Arrays) : Type 0 where
  pub count : length m.values ≡ m.rows * m.columns
  pub grid : IsGridOf one (file_layout m)
  pub source : cells_of arrays (rank_of one 0 0) a ≡ file_cells m
  pub target : AwaitsPieces b arrays
  pub rows : m.rows ≡ b.layout.rows
  pub columns : m.columns ≡ b.layout.columns
  pub apart : a ≢ b.array

-- Before a join: A is the pieces; array b has the size of the whole matrix, on the one process of its grid, and holds zeros.
pub record IsJoinStart (pieces : List LocalCells) (a : SpreadArray) (one : Grid) (b : ℕ) (arrays : Arrays) : Type 0 where
  pub source : HoldsPieces a arrays pieces
  pub target : AwaitsPieces (file_array b one (joined a.layout pieces)) arrays
  pub apart : a.array ≢ b
