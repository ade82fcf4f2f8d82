-- Where the elements of a matrix lie that is spread over a grid of processes.
-- ScaLAPACK Users' Guide, "Array Descriptor for In-core Dense Matrices".
use Rattle.std.specs.Prelude.{ℕ, ◌+◌, ◌*◌, ◌<◌, ◌≤◌}
use Rattle.index_tools.specs.Spread.{Spread, spread, owner, below, local}

-- A matrix of so many rows and columns, in blocks of mb rows and nb columns, over a grid of nprow by npcol
-- processes. The first row block lies in process row rsrc, the first column block in process column csrc.
pub record Layout : Type 0 where
  pub rows : ℕ
  pub columns : ℕ
  pub mb : ℕ
  pub nb : ℕ
  pub rsrc : ℕ
  pub csrc : ℕ
  pub nprow : ℕ
  pub npcol : ℕ

-- blocks that hold something, and sources that are processes of the grid
pub record IsLayout (m : Layout) : Type 0 where
  pub row_block : 0 < m.mb
  pub column_block : 0 < m.nb
  pub row_source : m.rsrc < m.nprow
  pub column_source : m.csrc < m.npcol

-- how the rows are spread over the process rows, and the columns over the process columns
abbrev pub row_spread : Layout → Spread
row_spread m = spread m.mb m.rsrc m.nprow

abbrev pub column_spread : Layout → Spread
column_spread m = spread m.nb m.csrc m.npcol

-- how many rows of the matrix lie in process row p, and how many columns in process column q
abbrev pub local_rows : Layout → ℕ → ℕ
local_rows m p = below (row_spread m) p m.rows

abbrev pub local_columns : Layout → ℕ → ℕ
local_columns m q = below (column_spread m) q m.columns

-- each leading dimension is at least the local rows of its process
pub record HasRoom (m : Layout) (llds : ℕ → ℕ → ℕ) : Type 0 where
  pub rows_fit : (p q : ℕ) → p < m.nprow → q < m.npcol → local_rows m p ≤ llds p q

-- a place in the local array of a process of the grid
pub record Home : Type 0 where
  pub row : ℕ
  pub column : ℕ
  pub place : ℕ

-- where an element with these local indices stands in a local array of leading dimension lld, which lies by columns
abbrev pub local_place : ℕ → ℕ → ℕ → ℕ
local_place lld li lj = lj * lld + li

-- The home of the element (i, j), counted from 0: the process that owns i by rows and j by columns, and the place of
-- its local indices in that process's array. `llds p q` is the leading dimension on process (p, q).
abbrev pub home : Layout → (ℕ → ℕ → ℕ) → ℕ → ℕ → Home
home m llds i j =
    let p = owner (row_spread m) i in
    let q = owner (column_spread m) j in
    record { row = p; column = q; place = local_place (llds p q) (local (row_spread m) i) (local (column_spread m) j) }
