-- The memories can do the plan.
use Rattle.move_tests.proofs.PlanLaws.{nodes_counted, nodes_can}
use Rattle.move_tests.proofs.trial.Trial.ready.Goals as goal

pub prepare-requires-clause-ranks : goal.prepare-requires-clause-ranks
prepare-requires-clause-ranks c = nodes_counted c.args.self.shapes c.args.self.plan c.args.nodes.items c.requires.nodes c.requires.trial.planned

pub prepare-requires-clause-can : goal.prepare-requires-clause-can
prepare-requires-clause-can c = nodes_can c.args.self.shapes c.args.self.plan c.args.nodes.items c.requires.nodes c.requires.trial.planned
