use Rattle.std.proofs.Common.{◌≡◌, rules, to_z, w32, ap, ◌∙◌}
use Rattle.proc_grid.specs.Grid.{pnum_of, pcoord_of}
use Rattle.proc_grid.proofs.PlaceLemmas.{pcoord_of-pnum_of}
use Rattle.proc_grid.proofs.context.Context.pnum.Goals as goal

pub returns-in-Some-clause-back : goal.returns-in-Some-clause-back
returns-in-Some-clause-back c = λ r e.
    let same : pnum_of c.args.self.now c.args.prow c.args.pcol ≡ to_z w32 c.in-Some.rank = search rules in
    ap (pcoord_of c.args.self.now) e ∙ pcoord_of-pnum_of c.args.self.now c.args.prow c.args.pcol r c.rank_at.ensures.grid (same ∙ e)
