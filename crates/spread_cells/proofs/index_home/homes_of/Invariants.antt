use Rattle.std.proofs.Common.{◌≡◌}
use Rattle.index_tools.specs.Spread.{spread}
use Rattle.spread_cells.specs.IndexHomes.{index_homes}
use Rattle.spread_cells.proofs.index_home.homes_of.Given as goal

abbrev pub invariant-loop-index : goal.invariant-loop-index
invariant-loop-index l = l.homes.items ≡ index_homes (spread l.block l.source l.processes) l.index
