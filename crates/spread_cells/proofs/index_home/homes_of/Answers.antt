-- The home that is pushed is that of the next index.
use Rattle.std.proofs.Common.{◌≡◌, ◌+◌, ◌-◌, arith}
use Rattle.index_tools.specs.Spread.{spread, local}
use Rattle.spread_cells.proofs.HomeTables.{homes_more}
use Rattle.spread_cells.proofs.index_home.homes_of.Goals as goal

pub loop-index-preserved : goal.loop-index-preserved
loop-index-preserved c =
    let s = spread c.args.block c.args.source c.args.processes in
    let here : c.loop-index.index + 1 - 1 ≡ c.loop-index.index = omega arith in
    let at : c.indxg2l-local.result - 1 ≡ local s (c.loop-index.index + 1 - 1) = omega (arith, c.indxg2l-local.ensures.local) in
    rw c.in_ok-push.ensures.items (homes_more s c.loop-index.index (c.loop-index.index + 1 - 1) c.indxg2p-process.result (c.indxg2l-local.result - 1) c.loop-index.homes.items c.loop-index.invariant here c.indxg2p-process.ensures.owner at)
