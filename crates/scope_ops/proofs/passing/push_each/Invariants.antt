use Rattle.std.proofs.Common.{◌≡◌, ◌≤◌, ◌+◌, ◌++◌, map}
use Rattle.std.specs.List.{range_with_len}
use Rattle.route_plans.specs.Members.{rank_in}
use Rattle.route_plans.specs.PlanSteps.{own_step}
use Rattle.scope_ops.specs.CombineOps.{own_op}
use Rattle.scope_ops.proofs.passing.push_each.Given as goal

abbrev pub invariant-loop-k : goal.invariant-loop-k
invariant-loop-k l = record {
  steps : l.plan.steps ≡ l.initial.plan.steps ++ map (own_step (rank_in l.members) (own_op l.own l.part)) (range_with_len 0 l.k);
  ranks : l.plan.ranks ≡ l.initial.plan.ranks;
  room : l.initial.plan.room ≤ l.plan.room + l.k;
}
