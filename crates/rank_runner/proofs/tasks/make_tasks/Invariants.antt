use Rattle.std.proofs.Common.{◌≤◌, length}
use Rattle.rank_runner.specs.Outfits.{AreTasks}
use Rattle.rank_runner.proofs.tasks.make_tasks.Given as goal

abbrev pub invariant-loop-place : goal.invariant-loop-place
invariant-loop-place g l = record {
  tasks : AreTasks g.Op.Step l.plan.steps l.place l.plan.ranks l.tasks.items;
  within : l.place ≤ length l.plan.steps;
}

abbrev pub decreases-loop-place : goal.decreases-loop-place
decreases-loop-place g l = l.place
