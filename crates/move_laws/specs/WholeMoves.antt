-- The move of a whole matrix between two grids.
use Rattle.std.specs.Prelude.{◌≡◌, ◌≢◌, ℕ, ◌<◌, pos, List}
use Rattle.index_tools.specs.Home.{Layout}
use Rattle.proc_grid.specs.Grid.{Grid, IsGrid}
use Rattle.pack_words.specs.declared.shape.Shape.TheVariants.{Ge}
use Rattle.pack_words.specs.LocalCells.{LocalCells}
use Rattle.mm_grammar.specs.Matrix.{Matrix}
use Rattle.spread_cells.specs.Spreading.{element, piece_rows}
use Rattle.spread_cells.specs.Joining.{array_at, leads}
use Rattle.mr2d.specs.Homes.{SpreadArray, Arrays, IsSpread, HaveArrays, rank_of, rank_place, home_on, cells_of, word_in}
use Rattle.mr2d.specs.Moves.{Move}

-- all of the matrix, from the first row and column of A to the first row and column of B
abbrev pub whole_move : Matrix → SpreadArray → SpreadArray → Move
whole_move m a b = record { cut = record { shape = Ge; m = m.rows; n = m.columns }; a = a; ia = 0; ja = 0; b = b; ib = 0; jb = 0 }

-- The matrix lies in the array: at the home of each element stands the element. What else stands there is free.
pub record Holds (a : SpreadArray) (arrays : Arrays) (m : Matrix) : Type 0 where
  pub spread : IsSpread a
  pub rows : m.rows ≡ a.layout.rows
  pub columns : m.columns ≡ a.layout.columns
  pub elements : (i j : ℕ) → i < m.rows → j < m.columns → word_in arrays a.array (home_on a i j) ≡ element m i j

-- The array is on each process the piece of that process, in the piece's leading dimension. The pieces stand by rows of the grid.
pub record HoldsPieces (a : SpreadArray) (arrays : Arrays) (pieces : List LocalCells) : Type 0 where
  pub spread : IsSpread a
  pub leads_are : (p q : ℕ) → p < a.layout.nprow → q < a.layout.npcol → a.llds p q ≡ leads a.layout pieces p q
  pub pieces_are : (p q : ℕ) → p < a.layout.nprow → q < a.layout.npcol → cells_of arrays (rank_of a.grid p q) a.array ≡ array_at a.layout pieces p q

-- The array has on each process the size of the piece that `split` saves of such a matrix, and all its words are 0.
pub record AwaitsPieces (b : SpreadArray) (arrays : Arrays) : Type 0 where
  pub spread : IsSpread b
  pub leads_are : (p q : ℕ) → p < b.layout.nprow → q < b.layout.npcol → b.llds p q ≡ piece_rows b.layout p
  pub have : HaveArrays b arrays
  pub zeros : (p q place : ℕ) → p < b.layout.nprow → q < b.layout.npcol → word_in arrays b.array (rank_place (rank_of b.grid p q) place) ≡ pos 0

-- Before a move of a matrix: it lies in A, and B awaits its pieces.
pub record IsMoveStart (m : Matrix) (a b : SpreadArray) (arrays : Arrays) : Type 0 where
  pub source : Holds a arrays m
  pub target : AwaitsPieces b arrays
  pub rows : m.rows ≡ b.layout.rows
  pub columns : m.columns ≡ b.layout.columns
  pub apart : a.array ≢ b.array

-- Before a move of pieces: they are A, and B awaits those of another distribution of the same matrix.
pub record IsPieceStart (pieces : List LocalCells) (a b : SpreadArray) (arrays : Arrays) : Type 0 where
  pub source : HoldsPieces a arrays pieces
  pub target : AwaitsPieces b arrays
  pub rows : a.layout.rows ≡ b.layout.rows
  pub columns : a.layout.columns ≡ b.layout.columns
  pub apart : a.array ≢ b.array

-- a grid of the layout's processes
pub record IsGridOf (g : Grid) (l : Layout) : Type 0 where
  pub grid : IsGrid g
  pub rows : l.nprow ≡ g.nprow
  pub columns : l.npcol ≡ g.npcol

-- the array of that number over a grid, with the leading dimensions of the pieces that `split` saves
abbrev pub piece_array : ℕ → Grid → Layout → SpreadArray
piece_array array g l = record { array = array; grid = g; layout = l; llds = λ p q. piece_rows l p }
