use Rattle.std.proofs.Common.{◌≡◌}
use Rattle.plan_tests.proofs.ring.ring_plan.Given as goal

abbrev pub invariant-loop : goal.invariant-loop
invariant-loop l = l.plan.ranks ≡ 64
