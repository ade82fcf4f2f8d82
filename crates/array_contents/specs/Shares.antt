-- Which rows and columns of a spread matrix each rank has.
use Rattle.std.specs.Prelude.{◌≡◌, ℕ, ◌<◌, ◌≤◌, List, [], length, Option, None, Some, slice_index_or}
use Rattle.pack_words.specs.LocalCells.{LocalCells, zeros}
use Rattle.index_tools.specs.Home.{Layout, row_spread, column_spread}
use Rattle.proc_grid.specs.Grid.{Grid, place_of}
use Rattle.spread_cells.specs.Spreading.{owned}
use Rattle.spread_cells.specs.Owned.{lists_of, owned_by}
use Rattle.array_contents.specs.declared.shares.Shares.{Shares}
use Rattle.array_contents.specs.declared.local_words.Source.{Source}
use Rattle.array_contents.specs.declared.local_words.Source.TheVariants.{Fill, Load}

-- those of a process of the grid, and none elsewhere
abbrev pub rows_by : Layout → Option (ℕ × ℕ) → List ℕ
rows_by l None = []
rows_by l (Some at) = owned (row_spread l) at.0 l.rows

abbrev pub columns_by : Layout → Option (ℕ × ℕ) → List ℕ
columns_by l None = []
columns_by l (Some at) = owned (column_spread l) at.1 l.columns

-- the lists of all process rows and of all process columns
pub record AreShares (l : Layout) (shares : Shares) : Type 0 where
  pub rows : lists_of shares.rows.items ≡ owned_by (row_spread l) l.rows l.nprow
  pub columns : lists_of shares.columns.items ≡ owned_by (column_spread l) l.columns l.npcol

-- a matrix that is loaded has the size of the spread one
abbrev pub IsSized : Layout → Source → Type 0
IsSized l (Fill f) = Unit {0}
IsSized l (Load whole) = (whole.now.rows ≡ l.rows) × (whole.now.columns ≡ l.columns)

-- where a rank has the array of that number, its columns have a word for each of its rows of the matrix
abbrev pub HoldRows : Layout → Grid → ℕ → List (List LocalCells) → Type 0
HoldRows l g array arrays = (r : ℕ) → array < length (slice_index_or arrays r []) → length (rows_by l (place_of g r)) ≤ (slice_index_or (slice_index_or arrays r []) array (zeros 1 0)).lld
