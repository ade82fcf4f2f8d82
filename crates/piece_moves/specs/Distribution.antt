-- A block-cyclic distribution: a grid of processes, and the blocks of which the first lies in process (0, 0).
use Rattle.std.specs.Prelude.{ℕ, ◌/◌, ◌%◌, max}
use Rattle.index_tools.specs.Home.{Layout, local_rows}
use Rattle.piece_grammar.specs.Head.{Head}

pub record Distribution : Type 0 where
  pub nprow : ℕ
  pub npcol : ℕ
  pub mb : ℕ
  pub nb : ℕ

-- how it spreads a matrix of so many rows and columns
abbrev pub layout_over : Distribution → (rows columns : ℕ) → Layout
layout_over d rows columns = record { rows = rows; columns = columns; mb = d.mb; nb = d.nb; rsrc = 0; csrc = 0; nprow = d.nprow; npcol = d.npcol }

-- the head of piece k, by rows of the grid
abbrev pub head_over : Distribution → (rows columns : ℕ) → ℕ → Head
head_over d rows columns k = record {
  nprow = d.nprow;
  npcol = d.npcol;
  prow = k / d.npcol;
  pcol = k % d.npcol;
  m = rows;
  n = columns;
  mb = d.mb;
  nb = d.nb;
  rsrc = 0;
  csrc = 0;
  lld = max 1 (local_rows (layout_over d rows columns) (k / d.npcol));
}
