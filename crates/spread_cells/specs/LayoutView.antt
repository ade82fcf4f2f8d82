-- How a matrix is spread, as the code holds it.
use Rattle.index_tools.specs.Home as home
use Rattle.spread_cells.specs.declared.layout.Layout.{Layout}

abbrev pub layout_view : Layout → home.Layout
layout_view l = record {
  rows = l.rows;
  columns = l.columns;
  mb = l.mb;
  nb = l.nb;
  rsrc = l.rsrc;
  csrc = l.csrc;
  nprow = l.nprow;
  npcol = l.npcol;
}
