use Rattle.std.proofs.Common.{◌≡◌, ◌<◌, ◌%◌, length, ap, ◌∙◌, arith}
use Rattle.std.proofs.Math.Nat.{mod-lt}
use Rattle.index_tools.specs.Spread.{spread}
use Rattle.index_tools.proofs.HomeLemmas.{below_le}
use Rattle.spread_cells.specs.Spreading.{owned}
use Rattle.spread_cells.specs.Owned.{lists_of}
use Rattle.spread_cells.proofs.OwnedLemmas.{length-owned}
use Rattle.spread_cells.proofs.OwnedLists.{lists_length, list_is}
use Rattle.drawn_jobs.proofs.dealing.columns_of.Goals as goal

pub list_at-requires : goal.list_at-requires
list_at-requires c =
    let to = c.args.to.now in
    let column : c.args.k % c.args.to.now.npcol < c.args.to.now.npcol = mod-lt c.args.k to.columns in
    let count = lists_length (spread to.nb 0 to.npcol) c.args.whole.now.columns to.npcol c.args.columns.now c.requires.columns in
    omega (arith, column, count)

pub returns-clause-columns : goal.returns-clause-columns
returns-clause-columns c =
    let to = c.args.to.now in
    let column : c.args.k % c.args.to.now.npcol < c.args.to.now.npcol = mod-lt c.args.k to.columns in
    c.list_at.ensures ∙ list_is (spread to.nb 0 to.npcol) c.args.whole.now.columns to.npcol (c.args.k % to.npcol) (lists_of c.args.columns.now) c.requires.columns column

pub returns-clause-few : goal.returns-clause-few
returns-clause-few c =
    let to = c.args.to.now in
    let column : c.args.k % c.args.to.now.npcol < c.args.to.now.npcol = mod-lt c.args.k to.columns in
    let is : c.list_at.result.now ≡ owned (spread c.args.to.now.nb 0 c.args.to.now.npcol) (c.args.k % c.args.to.now.npcol) c.args.whole.now.columns
    = c.list_at.ensures ∙ list_is (spread to.nb 0 to.npcol) c.args.whole.now.columns to.npcol (c.args.k % to.npcol) (lists_of c.args.columns.now) c.requires.columns column in
    omega (arith, ap length is, length-owned (spread to.nb 0 to.npcol) (c.args.k % to.npcol) c.args.whole.now.columns, below_le (spread to.nb 0 to.npcol) (c.args.k % to.npcol) c.args.whole.now.columns)
