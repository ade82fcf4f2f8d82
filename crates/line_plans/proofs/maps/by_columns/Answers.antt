use Rattle.std.proofs.Common.{◌+◌, refl}
use Rattle.line_plans.specs.Maps.{column_entry}
use Rattle.line_plans.proofs.MapLines.{one_more}
use Rattle.line_plans.proofs.maps.by_columns.Goals as goal

pub loop-k-preserved : goal.loop-k-preserved
loop-k-preserved c = one_more (column_entry c.args.listed.now c.args.nprow c.args.npcol) c.loop-k.all.items c.push.new.self.items c.loop-k.k (c.loop-k.k + 1) c.in_ok-push.ensures.items c.loop-k.invariant refl
