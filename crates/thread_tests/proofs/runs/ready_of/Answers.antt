use Rattle.plan_tests.proofs.Able.{all_can, cell_step, cell_node}
use Rattle.thread_tests.proofs.runs.ready_of.Goals as goal

pub prepare-requires-clause-can : goal.prepare-requires-clause-can
prepare-requires-clause-can g c κs within = all_can cell_step cell_node c.args.plan.ranks c.args.cells.items c.args.plan.steps (λ n o. tt) c.requires c.facts.ensures.among
