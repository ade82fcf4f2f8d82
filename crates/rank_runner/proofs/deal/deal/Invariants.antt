use Rattle.std.proofs.Common.{length}
use Rattle.rank_runner.specs.Dealing.{IsDealing}
use Rattle.rank_runner.proofs.deal.deal.Given as goal

abbrev pub invariant-loop-nodes : goal.invariant-loop-nodes
invariant-loop-nodes g l = IsDealing g.N.Op.Step g.N.Node l.steps l.count l.fn.nodes.items l.fn.tasks.items l.fn.desks.items l.nodes.items l.tasks.items l.desks.items l.workers

abbrev pub decreases-loop-nodes : goal.decreases-loop-nodes
decreases-loop-nodes g l = length l.nodes.items
