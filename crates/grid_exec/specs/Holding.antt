-- The arrays of all ranks before the first exchange.
use Rattle.std.specs.Prelude.{ℕ, List, []}
use Rattle.pack_words.specs.LocalCells.{LocalCells}
use Rattle.pack_words.specs.GridState.{GridState}
use Rattle.pack_words.specs.GridShapes.{ShapesView, HasShapes}
use Rattle.line_plans.specs.Exact.{IsExact}

-- these arrays by rank, and no message waits
abbrev pub resting : List (List LocalCells) → GridState
resting arrays = record { arrays = arrays; waits = λ from to. [] }

-- each rank holds just the arrays of the shapes
pub record HoldsArrays (v : ShapesView) (arrays : List (List LocalCells)) : Type 0 where
  pub shaped : HasShapes v (resting arrays)
  pub exact : IsExact v (resting arrays)
