-- A spread matrix as the code holds it: the arrays, and where each row and each column lies.
use Rattle.std.specs.Prelude.{◌≡◌}
use Rattle.index_tools.specs.Home.{row_spread, column_spread}
use Rattle.spread_cells.specs.IndexHomes.{index_homes}
use Rattle.spread_cells.specs.LayoutView.{layout_view}
use Rattle.spread_cells.specs.Joining.{Joined, HoldsSpread}
use Rattle.spread_cells.specs.declared.joined_cells.JoinedCells.TheInside.{Inside}

abbrev pub joined_view : Inside → Joined
joined_view c = record { layout = layout_view c.layout; arrays = c.arrays.now }

-- the tables hold where each row and each column lies, and the arrays have room
pub record IsJoined (c : Inside) : Type 0 where
  pub rows : c.rows.items ≡ index_homes (row_spread (layout_view c.layout)) c.layout.rows
  pub columns : c.columns.items ≡ index_homes (column_spread (layout_view c.layout)) c.layout.columns
  pub holds : HoldsSpread (layout_view c.layout) c.arrays.now
