-- What holds of declared grids and arrays.
use Rattle.std.specs.Prelude.{◌≡◌, ℕ, ◌<◌, ◌≤◌, List, length, slice_get, slice_index, Option, Some, None, is_some, true}
use Rattle.proc_grid.specs.Grid.{Grid}
use Rattle.proc_grid.specs.Held.{context_at}
use Rattle.descriptor.specs.Good.{IsGood}
use Rattle.descriptor.specs.declared.spread.Spread.{Spread}
use Rattle.pack_words.specs.GridShapes.{ShapesView, shape_of}
use Rattle.mr2d.specs.Homes.{HasShape}
use Rattle.mr2d.specs.Calls.{spread_array}

-- each grid is of ranks of the world
abbrev pub AreWithin : ℕ → List Grid → Type 0
AreWithin ranks held = (n : ℕ) (g : Grid) → slice_get held n ≡ Some g → (k : ℕ) → k < length g.ranks → slice_index g.ranks k < ranks

-- the array of that number is spread over a grid that is declared, as its entries say, and has its sizes there
pub record IsSpreadOut (held : List Grid) (v : ShapesView) (array : ℕ) (spread : Spread) : Type 0 where
  pub known : is_some (context_at held spread.desc.ctxt) ≡ true
  pub good : (g : Grid) → context_at held spread.desc.ctxt ≡ Some g → IsGood spread g
  pub sizes : (g : Grid) → context_at held spread.desc.ctxt ≡ Some g → HasShape (spread_array array spread g) v

-- 1 to 64 ranks. Each ARRAY is spread over a grid of them, and a MATRIX has one size on all of them
pub record IsSound (held : List Grid) (v : ShapesView) (spreads : List (Option Spread)) : Type 0 where
  pub some : 0 < v.ranks
  pub most : v.ranks ≤ 64
  pub one_each : length spreads ≡ v.count
  pub within : AreWithin v.ranks held
  pub spread_out : (array : ℕ) (spread : Spread) → slice_get spreads array ≡ Some (Some spread) → IsSpreadOut held v array spread
  pub alike : (array : ℕ) → slice_get spreads array ≡ Some None → (r : ℕ) → r < v.ranks → shape_of v r array ≡ shape_of v 0 array
