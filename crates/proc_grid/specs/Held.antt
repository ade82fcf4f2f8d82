-- The contexts of a program, by their numbers.
use Rattle.std.specs.Prelude.{List, Option, None, slice_get, ℤ, pos, negsuc}
use Rattle.proc_grid.specs.Grid.{Grid}

-- the context with a number, counted from 0
abbrev pub context_at : List Grid → ℤ → Option Grid
context_at held (pos n) = slice_get held n
context_at held (negsuc n) = None
