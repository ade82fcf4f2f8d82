-- The memories can do the plan.
use Rattle.pack_words.proofs.Kept.{plan_runs}
use Rattle.scope_tests.proofs.trial.staged.Goals as goal

pub prepare-requires-clause-can : goal.prepare-requires-clause-can
prepare-requires-clause-can c =
    (plan_runs c.args.shapes.now c.args.plan c.requires.means.0 c.in_ok-nodes.nodes.items c.requires.means.1 c.in_ok-nodes.ensures.shaped c.in_ok-nodes.ensures.room).0
