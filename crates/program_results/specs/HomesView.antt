-- Where the indices of one dimension lie, as the code holds it.
use Rattle.std.specs.Prelude.{◌≡◌, ◌<◌, ◌≤◌, ◌^◌, length}
use Rattle.index_tools.specs.Spread.{Spread, spread}
use Rattle.spread_cells.specs.IndexHomes.{index_homes}
use Rattle.program_results.specs.declared.homes.Homes.TheInside.{Inside}

abbrev pub homes_view : Inside → Spread
homes_view h = spread h.block h.source h.processes

-- the table holds where the first indices lie, and the blocks and processes are within their limits
pub record AreHomes (h : Inside) : Type 0 where
  pub table : h.table.items ≡ index_homes (homes_view h) (length h.table.items)
  pub block : 1 ≤ h.block
  pub block_fits : h.block ≤ 2 ^ 24
  pub few : h.processes ≤ 64
  pub source : h.source < h.processes
