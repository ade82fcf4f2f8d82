use Rattle.line_plans.proofs.MoveLines.{quiet_by}
use Rattle.line_plans.proofs.moves.check_move.Goals as goal

pub returns : goal.returns
returns c = quiet_by c.check_between.result c.args.declared.now c.args.plan.now c.args.args.now c.grid_of-a.result.now c.grid_of-b.result.now c.grid_of-a.ensures.is c.grid_of-b.ensures.is c.grid_of-a.ensures.grid c.grid_of-b.ensures.grid c.check_between.ensures.quiet c.check_between.ensures.done
