-- What is known of the grids and arrays that are declared.
use Rattle.std.specs.Prelude.{◌≡◌, length, map, is_some}
use Rattle.grid_lang.specs.declared.line.Line.{Line}
use Rattle.grid_lang.specs.Facts.{Known, Keeps}
use Rattle.line_plans.specs.declared.declared.Declared.{Declared}

-- what is known before a line is what is declared: the ranks, so many grids, and these arrays, an ARRAY with a spread and a MATRIX without
pub record Stands (d : Declared) (k : Known) : Type 0 where
  pub ranks : k.ranks ≡ d.shapes.ranks
  pub grids : k.grids ≡ length d.contexts
  pub arrays : k.arrays ≡ map is_some d.spreads.items

-- the grids and arrays that the line names are declared, and it passes no limit of a text
abbrev pub IsKnown : Declared → Line → Type 0
IsKnown d line = (k : Known) × Stands d k × Keeps k line
