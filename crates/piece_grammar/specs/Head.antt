-- The head of a piece: which process of which grid it belongs to, and how the whole matrix is spread over this grid.
use Rattle.std.specs.Prelude.{ℕ, ◌*◌, ◌^◌, ◌<◌, ◌≤◌, max, ℤ, List}
use Rattle.index_tools.specs.Home.{Layout, local_rows, local_columns}
use Rattle.mm_grammar.specs.Matrix.{Matrix}

-- the grid's rows and columns, the process's row and column, the matrix's rows and columns, those of a block, the process row and column of the first block, and
-- the leading dimension of the process's local array
pub record Head : Type 0 where
  pub nprow : ℕ
  pub npcol : ℕ
  pub prow : ℕ
  pub pcol : ℕ
  pub m : ℕ
  pub n : ℕ
  pub mb : ℕ
  pub nb : ℕ
  pub rsrc : ℕ
  pub csrc : ℕ
  pub lld : ℕ

-- how the whole matrix is spread
abbrev pub layout_of : Head → Layout
layout_of h = record {
  rows = h.m;
  columns = h.n;
  mb = h.mb;
  nb = h.nb;
  rsrc = h.rsrc;
  csrc = h.csrc;
  nprow = h.nprow;
  npcol = h.npcol;
}

-- the columns of the local array: as many as the process has of the matrix, and at least one
abbrev pub array_columns : Head → ℕ
array_columns h = max 1 (local_columns (layout_of h) h.pcol)

-- the words of the local array
abbrev pub array_words : Head → ℕ
array_words h = h.lld * array_columns h

-- a head, and the words of the local array by columns, padding included
pub record Piece : Type 0 where
  pub head : Head
  pub words : List ℤ

-- the local array as a matrix
abbrev pub array_of : Piece → Matrix
array_of p = record { rows = p.head.lld; columns = array_columns p.head; values = p.words }

-- A head that a piece may have: a process of a grid of at most 64; sizes of at most 2^24; blocks that hold something; sources that are processes of the grid;
-- and a leading dimension of at least the process's rows and 1.
pub record IsHead (h : Head) : Type 0 where
  pub some_rows : 1 ≤ h.nprow
  pub few_rows : h.nprow ≤ 64
  pub some_columns : 1 ≤ h.npcol
  pub few_columns : h.npcol ≤ 64
  pub few : h.nprow * h.npcol ≤ 64
  pub row : h.prow < h.nprow
  pub column : h.pcol < h.npcol
  pub rows_fit : h.m ≤ 2 ^ 24
  pub columns_fit : h.n ≤ 2 ^ 24
  pub some_row_block : 1 ≤ h.mb
  pub row_block_fits : h.mb ≤ 2 ^ 24
  pub some_column_block : 1 ≤ h.nb
  pub column_block_fits : h.nb ≤ 2 ^ 24
  pub row_source : h.rsrc < h.nprow
  pub column_source : h.csrc < h.npcol
  pub lead : max 1 (local_rows (layout_of h) h.prow) ≤ h.lld
  pub lead_fits : h.lld ≤ 2 ^ 24
