use Rattle.std.proofs.Common.{◌≡◌}
use Rattle.index_tools.specs.Spread.{spread}
use Rattle.spread_cells.specs.Owned.{lists_of, owned_by}
use Rattle.spread_cells.proofs.owned.owned_lists.Given as goal

abbrev pub invariant-loop-process : goal.invariant-loop-process
invariant-loop-process l = lists_of l.lists.items ≡ owned_by (spread l.block l.source l.processes) l.n l.process
