use Rattle.std.proofs.Common.{◌+◌, ◌-◌, ◌<◌, arith}
use Rattle.index_tools.specs.Spread.{spread}
use Rattle.index_tools.proofs.HomeLemmas.{index_below}
use Rattle.spread_cells.proofs.owned.owned_indices.Goals as goal

pub overflow_cast-index : goal.overflow_cast-index
overflow_cast-index c =
    let low : c.loop-place.place + 1 - 1 < c.numroc-count.result = omega arith in
    let below = index_below (spread c.args.block c.args.source c.args.processes) c.args.process (c.loop-place.place + 1 - 1) (c.indxl2g-index.result - 1) c.args.n c.indxl2g-index.ensures.index (omega (arith, c.numroc-count.ensures.count)) in
    record { fits = omega (arith, below, c.requires.size) }
