-- The matrix of an ARRAY as the code reads it out of the memories of ranks.
use Rattle.std.specs.Prelude.{map}
use Rattle.pack_words.specs.GridState.{arrays_held}
use Rattle.spread_cells.specs.Joining.{Joined}
use Rattle.program_results.specs.Placed.{arrays_on}
use Rattle.program_results.specs.Standing.{HoldsParts}
use Rattle.program_results.specs.declared.cells.ArrayCells.TheInside.{Inside}

abbrev pub cells_view : Inside → Joined
cells_view c = record { layout = c.place.now.layout; arrays = arrays_on (map arrays_held c.nodes.now) c.array c.place.now.ranks }

-- each rank of the grid has its part
abbrev pub IsArrayCells : Inside → Type 0
IsArrayCells c = HoldsParts (map arrays_held c.nodes.now) c.array c.place.now
