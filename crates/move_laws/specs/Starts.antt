-- The states that `split` and `join` begin with, on grids that are dealt out by rows: array 0 is A, array 1 is B.
use Rattle.std.specs.Prelude.{ℕ, ◌*◌, ◌/◌, ◌%◌, ◌^◌, ◌<◌, ◌≤◌, ◌==◌, if◌then◌else◌, max, List, [], ◌∷◌, map, slice_index_or}
use Rattle.std.specs.List.{range_with_len}
use Rattle.index_tools.specs.Home.{Layout, IsLayout}
use Rattle.proc_grid.specs.Grid.{Grid}
use Rattle.proc_grid.specs.Refusals.{FitsShape, dealt_grid}
use Rattle.proc_grid.specs.declared.world.Order.TheVariants.{R}
use Rattle.pack_words.specs.LocalCells.{LocalCells, zeros}
use Rattle.pack_words.specs.GridState.{GridState}
use Rattle.mm_grammar.specs.Matrix.{Matrix}
use Rattle.spread_cells.specs.Spreading.{piece_rows, piece_columns}
use Rattle.spread_cells.specs.Joining.{HoldsSpread, leads, joined}
use Rattle.spread_cells.specs.JoiningBack.{IsLayoutOf}
use Rattle.mr2d.specs.Homes.{SpreadArray}
use Rattle.mr2d.specs.Moves.{Move}
use Rattle.move_laws.specs.WholeMoves.{piece_array, whole_move}
use Rattle.move_laws.specs.Ends.{file_array, file_cells}

-- the grid of a file, and that of the pieces
abbrev pub file_grid : Grid
file_grid = dealt_grid R 1 1

abbrev pub piece_grid : Layout → Grid
piece_grid l = dealt_grid R l.nprow l.npcol

-- rank 0 has this array, and every other rank one without words
abbrev pub on_first : LocalCells → ℕ → LocalCells
on_first c rank = if rank == 0 then c else zeros 1 0

-- a state in which each of so many ranks has these arrays, and no message waits
abbrev pub state_of : ℕ → (ℕ → List LocalCells) → GridState
state_of ranks arrays = record { arrays = map arrays (range_with_len 0 ranks); waits = λ from to. [] }

-- the array of that number on each rank, by rank
abbrev pub arrays_on : ℕ → GridState → List LocalCells
arrays_on array s = map (λ (mine : List LocalCells). slice_index_or mine array (zeros 1 0)) s.arrays

-- `split`: rank 0 has the matrix, and each rank zeros in the size of its piece
abbrev pub split_arrays : Matrix → Layout → ℕ → List LocalCells
split_arrays m l rank = on_first (file_cells m) rank ∷ zeros (piece_rows l (rank / l.npcol)) (piece_columns l (rank % l.npcol)) ∷ []

abbrev pub split_state : Matrix → Layout → GridState
split_state m l = state_of (l.nprow * l.npcol) (split_arrays m l)

abbrev pub split_move : Matrix → Layout → Move
split_move m l = whole_move m (file_array 0 file_grid m) (piece_array 1 (piece_grid l) l)

-- `join`: each rank has its piece, and rank 0 zeros in the size of the matrix
abbrev pub join_arrays : Layout → List LocalCells → ℕ → List LocalCells
join_arrays l pieces rank = slice_index_or pieces rank (zeros 1 0) ∷ on_first (zeros (max 1 l.rows) (max 1 l.columns)) rank ∷ []

abbrev pub join_state : Layout → List LocalCells → GridState
join_state l pieces = state_of (l.nprow * l.npcol) (join_arrays l pieces)

-- pieces as an array over their grid, each in its own leading dimension
abbrev pub own_array : ℕ → Grid → Layout → List LocalCells → SpreadArray
own_array array g l pieces = record { array = array; grid = g; layout = l; llds = leads l pieces }

abbrev pub join_move : Layout → List LocalCells → Move
join_move l pieces = whole_move (joined l pieces) (own_array 0 (piece_grid l) l pieces) (file_array 1 file_grid (joined l pieces))

-- a matrix that can be split so: a grid of at most 64 processes, and pieces of at most 2^26 words
pub record CanSplit (m : Matrix) (l : Layout) : Type 0 where
  pub layout : IsLayoutOf l m
  pub shape : FitsShape (l.nprow * l.npcol) l.nprow l.npcol
  pub few : (p q : ℕ) → p < l.nprow → q < l.npcol → piece_rows l p * piece_columns l q ≤ 2 ^ 26

-- pieces that can be joined so: they hold a matrix, over such a grid, whose array has at most 2^26 words
pub record CanJoin (l : Layout) (pieces : List LocalCells) : Type 0 where
  pub layout : IsLayout l
  pub shape : FitsShape (l.nprow * l.npcol) l.nprow l.npcol
  pub holds : HoldsSpread l pieces
  pub few : max 1 l.rows * max 1 l.columns ≤ 2 ^ 26
