use Rattle.std.proofs.Common.{◌+◌, ◌-◌, ◌*◌, ◌/◌, ◌%◌, ◌≡◌, ◌≤◌, arith}
use Rattle.index_tools.specs.Spread.{spread, local, owner}
use Rattle.index_tools.proofs.Counts.{below_place}
use Rattle.index_tools.proofs.HomeLemmas.{below_le}
use Rattle.index_tools.proofs.indices.indxg2l.Goals as goal

pub returns-clause-local : goal.returns-clause-local
returns-clause-local c = grind (arith, below_place (spread c.args.nb c.args.isrcproc c.args.nprocs) (c.args.indxglob - 1) c.requires.block c.requires.source)

pub returns-clause-within : goal.returns-clause-within
returns-clause-within c =
    let i = c.args.indxglob - 1 in
    let s = spread c.args.nb c.args.isrcproc c.args.nprocs in
    let e : local s i ≡ c.args.nb * (i / (c.args.nb * c.args.nprocs)) + i % c.args.nb = below_place s i c.requires.block c.requires.source in
    let b : local s i ≤ i = below_le s (owner s i) i in
    omega arith
