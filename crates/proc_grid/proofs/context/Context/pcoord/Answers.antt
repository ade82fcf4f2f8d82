use Rattle.std.proofs.Common.{◌≡◌, rules, to_z, w32, ℤ, ap, ◌∙◌}
use Rattle.proc_grid.specs.Grid.{pnum_of, pcoord_of}
use Rattle.proc_grid.proofs.PlaceLemmas.{pnum_of-pcoord_of}
use Rattle.proc_grid.proofs.context.Context.pcoord.Goals as goal

pub returns-in-Some-clause-back : goal.returns-in-Some-clause-back
returns-in-Some-clause-back c = λ p e.
    let same : pcoord_of c.args.self.now c.args.rank ≡ (to_z w32 c.in-Some.row, to_z w32 c.in-Some.column) = search rules in
    ap (λ x. pnum_of c.args.self.now x (to_z w32 c.in-Some.column)) e ∙ pnum_of-pcoord_of c.args.self.now c.args.rank p _ c.place.ensures.grid (same ∙ ap (λ (x : ℤ). (x, to_z w32 c.in-Some.column)) e)
