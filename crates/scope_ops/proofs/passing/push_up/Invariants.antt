use Rattle.std.proofs.Common.{◌≡◌, ◌≤◌, ◌+◌, ◌*◌, ◌++◌, take}
use Rattle.route_laws.specs.Passing.{turned}
use Rattle.route_plans.specs.PlanSteps.{plan_passing}
use Rattle.route_plans.specs.Members.{rank_in}
use Rattle.scope_ops.specs.CombineOps.{relay_send, relay_receive}
use Rattle.scope_ops.proofs.passing.push_up.Given as goal

abbrev pub invariant-loop-i : goal.invariant-loop-i
invariant-loop-i l = record {
  steps : l.plan.steps ≡ l.initial.plan.steps ++ plan_passing (rank_in l.members) (relay_send l.relay (rank_in l.members)) (relay_receive l.relay (rank_in l.members)) (take l.i (turned l.edges));
  ranks : l.plan.ranks ≡ l.initial.plan.ranks;
  room : l.initial.plan.room ≤ l.plan.room + 2 * l.i;
}
