use Rattle.std.proofs.Common.{◌≡◌, ℕ, ◌+◌, ◌*◌, ◌++◌, [], ◌∷◌, length, sym, ap, ◌∙◌, arith}
use Rattle.msg_core.specs.Plans.{lens_of, no_lens}
use Rattle.route_laws.specs.Passing.{turned}
use Rattle.route_laws.proofs.DoingLaws.{length-turned}
use Rattle.route_plans.specs.PlanSteps.{start_step, end_step}
use Rattle.route_plans.specs.Members.{rank_in}
use Rattle.scope_ops.specs.CombineOps.{relay_send, relay_receive}
use Rattle.pack_words.specs.GridState.{rank_steps}
use Rattle.scope_ops.proofs.Relays.{relay_lengths}
use Rattle.route_plans.proofs.GoingLaws.{edge_at, free_up, free_on_way, turned_at, steps_more, few_on_way}
use Rattle.scope_ops.proofs.passing.push_up.Goals as goal

pub push_relay-requires-clause-free : goal.push_relay-requires-clause-free
push_relay-requires-clause-free c =
    let size : length (turned c.args.edges.now) ≡ length c.args.edges.now = length-turned c.args.edges.now in
    sym (ap (λ (e : ℕ × ℕ). lens_of rank_steps c.loop-i.plan.steps no_lens (rank_in c.args.members.now e.0) (rank_in c.args.members.now e.1)) (turned_at c.args.edges.now c.loop-i.i (omega arith)))
    ∙ free_on_way rank_steps (rank_in c.args.members.now) (relay_send c.args.relay (rank_in c.args.members.now)) (relay_receive c.args.relay (rank_in c.args.members.now)) (relay_lengths c.args.relay (rank_in c.args.members.now)) (turned c.args.edges.now) c.args.plan.now (free_up rank_steps c.args.members.now c.requires.route.0 c.args.edges.now c.args.plan.now c.requires.route.1 c.requires.members)
    c.loop-i.plan.steps c.loop-i.i (omega arith) c.loop-i.invariant.steps

pub push_relay-requires-clause-few : goal.push_relay-requires-clause-few
push_relay-requires-clause-few c =
    let size : length (turned c.args.edges.now) ≡ length c.args.edges.now = length-turned c.args.edges.now in
    let now : length c.loop-i.plan.steps ≡ length c.args.plan.now.steps + 2 * c.loop-i.i = few_on_way (relay_send c.args.relay (rank_in c.args.members.now)) (relay_receive c.args.relay (rank_in c.args.members.now)) c.args.plan.now.steps c.loop-i.plan.steps (rank_in c.args.members.now) (turned c.args.edges.now) c.loop-i.i (omega arith) c.loop-i.invariant.steps in
    let few = c.requires.few in
    omega arith

pub loop-i-preserved : goal.loop-i-preserved
loop-i-preserved c =
    let size : length (turned c.args.edges.now) ≡ length c.args.edges.now = length-turned c.args.edges.now in
    let more : c.push_relay.new.plan.steps ≡ c.loop-i.plan.steps ++ start_step (rank_in c.args.members.now) (relay_send c.args.relay (rank_in c.args.members.now)) (edge_at (turned c.args.edges.now) c.loop-i.i) ∷ end_step (rank_in c.args.members.now) (relay_receive c.args.relay (rank_in c.args.members.now)) (edge_at (turned c.args.edges.now) c.loop-i.i) ∷ []
    = c.push_relay.ensures.steps
    ∙ ap (λ (e : ℕ × ℕ). c.loop-i.plan.steps ++ start_step (rank_in c.args.members.now) (relay_send c.args.relay (rank_in c.args.members.now)) e ∷ end_step (rank_in c.args.members.now) (relay_receive c.args.relay (rank_in c.args.members.now)) e ∷ []) (sym (turned_at c.args.edges.now c.loop-i.i (omega arith))) in
    record {
      steps = steps_more (relay_send c.args.relay (rank_in c.args.members.now)) (relay_receive c.args.relay (rank_in c.args.members.now)) c.args.plan.now.steps c.loop-i.plan.steps c.push_relay.new.plan.steps (rank_in c.args.members.now) (turned c.args.edges.now) c.loop-i.i (omega arith) c.loop-i.invariant.steps more;
      ranks = c.push_relay.ensures.ranks ∙ c.loop-i.invariant.ranks;
      room = let a = c.push_relay.ensures.room in let b = c.loop-i.invariant.room in omega arith;
    }
