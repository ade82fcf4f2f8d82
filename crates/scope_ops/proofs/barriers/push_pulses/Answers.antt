-- After the way up the members are as free as before.
use Rattle.std.proofs.Common.{arith}
use Rattle.scope_ops.specs.declared.relay.Relay.TheVariants as relay
use Rattle.scope_ops.proofs.Gathers.{long_up, free_through_up}
use Rattle.scope_ops.proofs.barriers.push_pulses.Goals as goal

pub push_down-requires-clause-members : goal.push_down-requires-clause-members
push_down-requires-clause-members c = free_through_up c.args.members.now c.requires.route.0 c.args.edges.now relay.Pulse c.args.plan.now c.push_up.new.plan c.requires.route.1 c.requires.members c.push_up.ensures.ranks c.push_up.ensures.steps

pub push_down-requires-clause-few : goal.push_down-requires-clause-few
push_down-requires-clause-few c =
    let long = long_up c.args.plan.now.steps c.push_up.new.plan.steps c.args.members.now c.args.edges.now relay.Pulse c.push_up.ensures.steps in
    let few = c.requires.few in
    omega arith
