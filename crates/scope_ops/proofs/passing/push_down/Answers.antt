use Rattle.pack_words.specs.GridState.{rank_steps}
use Rattle.scope_ops.proofs.Relays.{relay_lengths}
use Rattle.std.proofs.Common.{◌≡◌, ◌+◌, ◌*◌, length, ◌∙◌, arith}
use Rattle.route_plans.specs.Members.{rank_in}
use Rattle.scope_ops.specs.CombineOps.{relay_send, relay_receive}
use Rattle.route_plans.proofs.GoingLaws.{free_down, free_on_way, steps_more, few_on_way}
use Rattle.scope_ops.proofs.passing.push_down.Goals as goal

pub push_relay-requires-clause-free : goal.push_relay-requires-clause-free
push_relay-requires-clause-free c =
    free_on_way rank_steps (rank_in c.args.members.now) (relay_send c.args.relay (rank_in c.args.members.now)) (relay_receive c.args.relay (rank_in c.args.members.now)) (relay_lengths c.args.relay (rank_in c.args.members.now)) c.args.edges.now c.args.plan.now (free_down rank_steps c.args.members.now c.requires.route.0 c.args.edges.now c.args.plan.now c.requires.route.1 c.requires.members) c.loop-i.plan.steps c.loop-i.i (omega arith) c.loop-i.invariant.steps

pub push_relay-requires-clause-few : goal.push_relay-requires-clause-few
push_relay-requires-clause-few c =
    let size : length c.loop-i.plan.steps ≡ length c.args.plan.now.steps + 2 * c.loop-i.i = few_on_way (relay_send c.args.relay (rank_in c.args.members.now)) (relay_receive c.args.relay (rank_in c.args.members.now)) c.args.plan.now.steps c.loop-i.plan.steps (rank_in c.args.members.now) c.args.edges.now c.loop-i.i (omega arith) c.loop-i.invariant.steps in
    let few = c.requires.few in
    omega arith

pub loop-i-preserved : goal.loop-i-preserved
loop-i-preserved c = record {
  steps = steps_more (relay_send c.args.relay (rank_in c.args.members.now)) (relay_receive c.args.relay (rank_in c.args.members.now)) c.args.plan.now.steps c.loop-i.plan.steps c.push_relay.new.plan.steps (rank_in c.args.members.now) c.args.edges.now c.loop-i.i (omega arith) c.loop-i.invariant.steps c.push_relay.ensures.steps;
  ranks = c.push_relay.ensures.ranks ∙ c.loop-i.invariant.ranks;
  room = let a = c.push_relay.ensures.room in let b = c.loop-i.invariant.room in omega arith;
}
