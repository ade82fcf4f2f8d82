-- Sizes of an array by rank, before it is declared.
use Rattle.std.specs.Prelude.{◌≡◌, ℕ, ◌<◌, List, slice_index_or, max, Some, is_some, true}
use Rattle.proc_grid.specs.Grid.{Grid}
use Rattle.proc_grid.specs.Held.{context_at}
use Rattle.descriptor.specs.Good.{IsGood, layout_of, lld_of}
use Rattle.descriptor.specs.declared.spread.Spread.{Spread}
use Rattle.index_tools.specs.Home.{local_columns}
use Rattle.mr2d.specs.Homes.{rank_of}

-- an array of these sizes by rank is spread so
pub record FitsSizes (held : List Grid) (ranks : ℕ) (sizes : List (ℕ × ℕ)) (spread : Spread) : Type 0 where
  pub known : is_some (context_at held spread.desc.ctxt) ≡ true
  pub good : (g : Grid) → context_at held spread.desc.ctxt ≡ Some g → IsGood spread g
  pub within : (g : Grid) → context_at held spread.desc.ctxt ≡ Some g → (p q : ℕ) → p < g.nprow → q < g.npcol → rank_of g p q < ranks
  pub sizes_are : (g : Grid) → context_at held spread.desc.ctxt ≡ Some g → (p q : ℕ) → p < g.nprow → q < g.npcol → slice_index_or sizes (rank_of g p q) (1, 0) ≡ (lld_of spread g p q, max 1 (local_columns (layout_of spread g) q))

-- the sizes are one on all ranks
abbrev pub AreAlike : ℕ → List (ℕ × ℕ) → Type 0
AreAlike ranks sizes = (r : ℕ) → r < ranks → slice_index_or sizes r (1, 0) ≡ slice_index_or sizes 0 (1, 0)
