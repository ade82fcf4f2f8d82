use Rattle.std.proofs.Common.{◌∙◌}
use Rattle.proc_grid.proofs.GridLemmas.{same_grid}
use Rattle.proc_grid.proofs.MapLemmas.{mapped_grid-is, mapped_places, mapped_below}
use Rattle.proc_grid.proofs.making.gridmap.Goals as goal

pub new-requires : goal.new-requires
new-requires c = mapped_grid-is c.args.world.now.ranks c.args.usermap.now c.args.ldumap c.args.nprow c.args.npcol _ c.in_ok-check_shape.ensures.fits c.in_ok-read_map.ensures.good (same_grid _ _ _ _ (c.in_ok-ranks.ensures.items ∙ c.in_ok-read_map.ensures.read))

pub returns-clause-places : goal.returns-clause-places
returns-clause-places c = mapped_places c.args.world.now.ranks c.args.usermap.now c.args.ldumap c.args.nprow c.args.npcol c.new.result c.in_ok-check_shape.ensures.fits c.in_ok-read_map.ensures.good (c.new.ensures.made ∙ same_grid _ _ _ _ (c.in_ok-ranks.ensures.items ∙ c.in_ok-read_map.ensures.read))

pub returns-clause-ranks : goal.returns-clause-ranks
returns-clause-ranks c = mapped_below c.args.world.now.ranks c.args.usermap.now c.args.ldumap c.args.nprow c.args.npcol c.new.result c.in_ok-read_map.ensures.good (c.new.ensures.made ∙ same_grid _ _ _ _ (c.in_ok-ranks.ensures.items ∙ c.in_ok-read_map.ensures.read))
