use Rattle.std.proofs.Common.{refl, arith}
use Rattle.msg_core.proofs.Staging.{among_at}
use Rattle.rank_runner.proofs.Tasking.{tasks_step}
use Rattle.rank_runner.proofs.tasks.add_task.Goals as goal

pub buffer_for-requires : goal.buffer_for-requires
buffer_for-requires g c = (among_at g.Op.Step c.args.plan.now.steps c.args.plan.now.ranks c.args.place (c.in-Some.rank, c.in-Some.op.now) c.facts.ensures.among c.in-Some.ensures).0

pub index_mut-list-requires : goal.index_mut-list-requires
index_mut-list-requires g c =
    let low = (among_at g.Op.Step c.args.plan.now.steps c.args.plan.now.ranks c.args.place (c.in-Some.rank, c.in-Some.op.now) c.facts.ensures.among c.in-Some.ensures).1 in
    let count = c.requires.tasks.count in
    omega (arith, low, count)

pub returns : goal.returns
returns g c =
    let low = (among_at g.Op.Step c.args.plan.now.steps c.args.plan.now.ranks c.args.place (c.in-Some.rank, c.in-Some.op.now) c.facts.ensures.among c.in-Some.ensures).1 in
    tasks_step g.Op.Step c.args.plan.now.steps c.args.plan.now.ranks c.args.place c.in-Some.rank c.in-Some.op.now c.args.tasks.now.items c.index_mut-list.result.now c.push.new.self (record { place = c.args.place; buffer = c.in_ok-buffer.buffer })
    c.requires.tasks c.in-Some.ensures low c.index_mut-list.ensures.value c.in_ok-push.ensures.items refl c.in_ok-buffer.ensures
