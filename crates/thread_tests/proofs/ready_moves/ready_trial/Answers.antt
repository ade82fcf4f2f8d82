-- The memories can do the plan.
use Rattle.move_tests.proofs.PlanLaws.{nodes_counted, nodes_can}
use Rattle.thread_tests.proofs.ready_moves.ready_trial.Goals as goal

pub prepare-requires-clause-ranks : goal.prepare-requires-clause-ranks
prepare-requires-clause-ranks g c κs within = nodes_counted c.args.trial.shapes c.args.trial.plan c.args.nodes.items c.requires.nodes c.requires.trial.planned

pub prepare-requires-clause-can : goal.prepare-requires-clause-can
prepare-requires-clause-can g c κs within = nodes_can c.args.trial.shapes c.args.trial.plan c.args.nodes.items c.requires.nodes c.requires.trial.planned
