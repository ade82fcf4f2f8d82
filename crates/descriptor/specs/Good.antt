-- What holds of a spread matrix and a submatrix that a check passes.
use Rattle.std.specs.Prelude.{◌≡◌, ℕ, ◌+◌, ◌*◌, ◌^◌, ◌<◌, ◌≤◌, length, slice_index, slice_index_or, ℤ, pos}
use Rattle.index_tools.specs.Home.{Layout, IsLayout, HasRoom}
use Rattle.proc_grid.specs.Grid.{Grid}
use Rattle.descriptor.specs.Bounds.{part}
use Rattle.descriptor.specs.declared.spread.Spread.{Spread}

-- how a descriptor spreads its matrix over a grid
abbrev pub layout_of : Spread → Grid → Layout
layout_of s g = record {
  rows = part s.desc.m;
  columns = part s.desc.n;
  mb = part s.desc.mb;
  nb = part s.desc.nb;
  rsrc = part s.desc.rsrc;
  csrc = part s.desc.csrc;
  nprow = g.nprow;
  npcol = g.npcol;
}

-- the leading dimension on the process (p, q)
abbrev pub lld_of : Spread → Grid → ℕ → ℕ → ℕ
lld_of s g p q = part (slice_index_or s.llds (p * g.npcol + q) (pos 0))

-- The entries are in range, and each process has a leading dimension of at least its local rows.
pub record IsGood (s : Spread) (g : Grid) : Type 0 where
  pub dtype : s.desc.dtype ≡ pos 1
  pub rows : s.desc.m ≡ pos (layout_of s g).rows
  pub columns : s.desc.n ≡ pos (layout_of s g).columns
  pub row_block : s.desc.mb ≡ pos (layout_of s g).mb
  pub column_block : s.desc.nb ≡ pos (layout_of s g).nb
  pub row_source : s.desc.rsrc ≡ pos (layout_of s g).rsrc
  pub column_source : s.desc.csrc ≡ pos (layout_of s g).csrc
  pub rows_fit : (layout_of s g).rows ≤ 2 ^ 24
  pub columns_fit : (layout_of s g).columns ≤ 2 ^ 24
  pub row_block_fits : (layout_of s g).mb ≤ 2 ^ 24
  pub column_block_fits : (layout_of s g).nb ≤ 2 ^ 24
  pub layout : IsLayout (layout_of s g)
  pub llds : length s.llds ≡ g.nprow * g.npcol
  pub room : HasRoom (layout_of s g) (lld_of s g)
  pub some_lld : (p q : ℕ) → p < g.nprow → q < g.npcol → 1 ≤ lld_of s g p q
  pub llds_fit : (p q : ℕ) → p < g.nprow → q < g.npcol → lld_of s g p q ≤ 2 ^ 24

-- so many indices from a start, counted from 1, lie in the whole
pub record IsInside (start : ℤ) (extent whole : ℕ) : Type 0 where
  pub number : start ≡ pos (part start)
  pub from_one : 1 ≤ part start
  pub ends : part start + extent ≤ whole + 1

-- each rank of a grid is one of another's
pub record IsWithin (common g : Grid) : Type 0 where
  pub found : (k : ℕ) → k < length g.ranks → (j : ℕ) × (j < length common.ranks) × (slice_index common.ranks j ≡ slice_index g.ranks k)
