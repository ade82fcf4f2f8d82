use Rattle.std.proofs.Common.{List, sym, subst}
use Rattle.proc_grid.specs.Grid.{Grid}
use Rattle.program_meaning.specs.Sound.{IsSound}
use Rattle.line_plans.proofs.SoundLaws.{grid_more}
use Rattle.line_plans.proofs.grids.add_grid.Goals as goal

pub invariant_of-result-clause-sound : goal.invariant_of-result-clause-sound
invariant_of-result-clause-sound c =
    subst (λ (held : List Grid). IsSound held c.args.declared.shapes c.args.declared.spreads.items) (sym c.in-Ok.ensures.added)
    (grid_more c.args.declared.contexts c.args.declared.shapes c.args.declared.spreads.items c.args.ctx c.args.declared.sound c.requires.within)
