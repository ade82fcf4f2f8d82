-- The loads, and the way up.
use Rattle.std.proofs.Common.{arith}
use Rattle.scope_ops.specs.declared.own.Own.TheVariants as own
use Rattle.scope_ops.proofs.Gathers.{long_each, long_up, free_each}
use Rattle.scope_ops.proofs.gather.gather_to_one.Goals as goal

pub push_up-requires-clause-members : goal.push_up-requires-clause-members
push_up-requires-clause-members c = free_each c.args.members.now own.Load c.args.gather.now.part c.args.plan.now c.push_each.new.plan c.requires.members c.push_each.ensures.ranks c.push_each.ensures.steps

pub push_up-requires-clause-few : goal.push_up-requires-clause-few
push_up-requires-clause-few c =
    let loads = long_each c.args.plan.now.steps c.push_each.new.plan.steps c.args.members.now own.Load c.args.gather.now.part c.push_each.ensures.steps in
    let count = c.requires.route.count in
    let root = c.requires.root in
    let few = c.requires.few in
    omega arith

pub push_own-requires-clause-few : goal.push_own-requires-clause-few
push_own-requires-clause-few c =
    let loads = long_each c.args.plan.now.steps c.push_each.new.plan.steps c.args.members.now own.Load c.args.gather.now.part c.push_each.ensures.steps in
    let ups = long_up c.push_each.new.plan.steps c.push_up.new.plan.steps c.args.members.now c.args.edges.now c.join.result c.push_up.ensures.steps in
    let count = c.requires.route.count in
    let root = c.requires.root in
    let few = c.requires.few in
    omega arith
