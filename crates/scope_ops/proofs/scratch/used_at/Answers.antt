-- The operation is well made.
use Rattle.scope_ops.proofs.Needed.{made_at}
use Rattle.scope_ops.proofs.scratch.used_at.Goals as goal

pub elements-requires : goal.elements-requires
elements-requires c = made_at c.args.plan.now.ranks c.args.plan.now.steps c.args.k (c.in-Some.r, c.in-Some.op.now) c.facts.ensures.among c.in-Some.ensures
