use Rattle.proc_grid.proofs.GridLemmas.{dealt_list-is, dealt_place-is, dealt_grid-below, same_grid}
use Rattle.std.proofs.Common.{◌∙◌}
use Rattle.proc_grid.proofs.making.gridinit.Goals as goal

pub new-requires : goal.new-requires
new-requires c = dealt_list-is c.args.order c.args.world.now.ranks c.args.nprow c.args.npcol _ c.in_ok-check_shape.ensures.fits c.in_ok-ranks.ensures

pub returns-clause-places : goal.returns-clause-places
returns-clause-places c = dealt_place-is c.args.order c.args.world.now.ranks c.args.nprow c.args.npcol c.new.result c.in_ok-check_shape.ensures.fits (c.new.ensures.made ∙ same_grid _ _ _ _ c.in_ok-ranks.ensures)

pub returns-clause-ranks : goal.returns-clause-ranks
returns-clause-ranks c = dealt_grid-below c.args.order c.args.world.now.ranks c.args.nprow c.args.npcol c.new.result c.in_ok-check_shape.ensures.fits (c.new.ensures.made ∙ same_grid _ _ _ _ c.in_ok-ranks.ensures)
