use Rattle.std.proofs.Common.{◌∙◌, arith}
use Rattle.rank_runner.proofs.Tasking.{tasks_start, tasks_at}
use Rattle.rank_runner.proofs.tasks.make_tasks.Goals as goal

pub loop-place-init : goal.loop-place-init
loop-place-init g c = record {
  tasks = tasks_start g.Op.Step c.args.plan.now.steps c.args.plan.now.ranks c.len-place.result c.in_ok-tasks.tasks.items (c.in_ok-tasks.ensures.len ∙ c.ranks.ensures.ranks) c.len-place.ensures.value c.in_ok-tasks.ensures.empty;
  within = (let v = c.len-place.ensures.value in omega (arith, v));
}

pub add_task-requires-clause-place : goal.add_task-requires-clause-place
add_task-requires-clause-place g c = (let w = c.loop-place.invariant.within in let h = c.loop-place-test.true in omega (arith, w, h))

pub returns : goal.returns
returns g c = tasks_at g.Op.Step c.args.plan.now.steps c.args.plan.now.ranks c.loop-place.place 0 c.loop-place.tasks.items (let h = c.loop-place-test.false in omega (arith, h)) c.loop-place.invariant.tasks
