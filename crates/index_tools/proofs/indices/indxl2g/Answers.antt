use Rattle.std.proofs.Common.{◌≡◌, ◌+◌, ◌-◌, ◌*◌, ◌∙◌, arith}
use Rattle.index_tools.specs.Spread.{spread}
use Rattle.index_tools.proofs.HomeLemmas.{index_at, index_at-same, same_index}
use Rattle.index_tools.proofs.indices.indxl2g.Goals as goal

pub returns-clause-index : goal.returns-clause-index
returns-clause-index c =
    let s = spread c.args.nb c.args.isrcproc c.args.nprocs in
    let e : (c.from.result * c.from-2.result + c.from-3.result) * c.from-4.result + c.from-5.result ≡ index_at s c.args.iproc (c.args.indxloc - 1) = grind arith in
    index_at-same s c.args.iproc (c.args.indxloc - 1) _ c.requires.block c.requires.source c.requires.process ((let f : (c.from.result * c.from-2.result + c.from-3.result) * c.from-4.result + c.from-5.result + 1 - 1 ≡ (c.from.result * c.from-2.result + c.from-3.result) * c.from-4.result + c.from-5.result = omega arith in f) ∙ e)

pub returns-clause-only : goal.returns-clause-only
returns-clause-only c = λ g a.
    let here = returns-clause-index c in
    let e = same_index (spread c.args.nb c.args.isrcproc c.args.nprocs) c.args.iproc (c.args.indxloc - 1) _ g here a in
    omega arith
