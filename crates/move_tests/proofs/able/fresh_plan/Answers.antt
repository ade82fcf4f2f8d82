-- No operation yet.
use Rattle.move_tests.proofs.PlanLaws.{fresh}
use Rattle.move_tests.proofs.able.fresh_plan.Goals as goal

pub returns : goal.returns
returns c = fresh c.args.shapes.now c.ranks.result c.new.result c.ranks.ensures.ranks c.new.ensures
