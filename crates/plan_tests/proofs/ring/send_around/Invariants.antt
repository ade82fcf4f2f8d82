use Rattle.std.proofs.Common.{◌≡◌}
use Rattle.plan_tests.proofs.ring.send_around.Given as goal

abbrev pub invariant-loop-rank : goal.invariant-loop-rank
invariant-loop-rank l = l.plan.ranks ≡ 64
