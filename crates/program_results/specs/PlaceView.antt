-- The place of an ARRAY as the code holds it: with where its rows and columns lie.
use Rattle.std.specs.Prelude.{◌≡◌, ◌*◌, length}
use Rattle.index_tools.specs.Home.{row_spread, column_spread}
use Rattle.spread_cells.specs.LayoutView.{layout_view}
use Rattle.program_results.specs.Placed.{Placed}
use Rattle.program_results.specs.declared.place.Place.TheInside.{Inside}

abbrev pub place_view : Inside → Placed
place_view p = record { layout = layout_view p.layout; ranks = p.ranks.items }

-- a rank for each process, and rows and columns lie as the layout says
pub record IsPlace (p : Inside) : Type 0 where
  pub filled : length p.ranks.items ≡ p.layout.nprow * p.layout.npcol
  pub rows : p.rows ≡ row_spread (layout_view p.layout)
  pub columns : p.columns ≡ column_spread (layout_view p.layout)
