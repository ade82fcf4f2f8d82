use Rattle.std.proofs.Common.{◌≡◌, length}
use Rattle.plan_tests.proofs.ring.ring_nodes.Given as goal

abbrev pub invariant-loop-rank : goal.invariant-loop-rank
invariant-loop-rank l = length l.nodes.items ≡ l.rank
