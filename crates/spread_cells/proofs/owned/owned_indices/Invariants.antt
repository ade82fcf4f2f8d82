use Rattle.std.proofs.Common.{◌≡◌, length}
use Rattle.index_tools.specs.Spread.{spread}
use Rattle.spread_cells.specs.Owned.{AreOwned}
use Rattle.spread_cells.proofs.owned.owned_indices.Given as goal

abbrev pub invariant-loop-place : goal.invariant-loop-place
invariant-loop-place l = record {
  count : length l.indices.items ≡ l.place;
  indices : AreOwned (spread l.block l.source l.processes) l.process l.indices.items;
}
