-- The loads, the way up, the way down, and the stores.
use Rattle.std.proofs.Common.{ℕ, List, ◌++◌, length, ap, ◌∙◌, arith}
use Rattle.route_laws.specs.Passing.{turned}
use Rattle.route_plans.specs.Members.{rank_in}
use Rattle.route_plans.specs.PlanSteps.{plan_each, plan_passing}
use Rattle.pack_words.specs.declared.rank_op.RankOp.{RankOp}
use Rattle.scope_ops.specs.declared.own.Own.TheVariants as own
use Rattle.scope_ops.specs.declared.relay.Relay.{Relay}
use Rattle.scope_ops.specs.declared.relay.Relay.TheVariants as relay
use Rattle.scope_ops.specs.CombineOps.{element_count, own_op, relay_send, relay_receive}
use Rattle.scope_ops.proofs.Gathers.{long_each, long_up, long_down, free_each, free_through_up, appended_two}
use Rattle.scope_ops.proofs.gather.gather_to_all.Goals as goal

pub push_up-requires-clause-members : goal.push_up-requires-clause-members
push_up-requires-clause-members c = free_each c.args.members.now own.Load c.args.gather.now.part c.args.plan.now c.push_each.new.plan c.requires.members c.push_each.ensures.ranks c.push_each.ensures.steps

pub push_up-requires-clause-few : goal.push_up-requires-clause-few
push_up-requires-clause-few c =
    let loads = long_each c.args.plan.now.steps c.push_each.new.plan.steps c.args.members.now own.Load c.args.gather.now.part c.push_each.ensures.steps in
    let count = c.requires.route.count in
    let root = c.requires.root in
    let few = c.requires.few in
    omega arith

pub push_down-requires-clause-members : goal.push_down-requires-clause-members
push_down-requires-clause-members c =
    free_through_up c.args.members.now c.args.root c.args.edges.now c.join.result c.push_each.new.plan c.push_up.new.plan c.requires.route
    (free_each c.args.members.now own.Load c.args.gather.now.part c.args.plan.now c.push_each.new.plan c.requires.members c.push_each.ensures.ranks c.push_each.ensures.steps) c.push_up.ensures.ranks c.push_up.ensures.steps

pub push_down-requires-clause-few : goal.push_down-requires-clause-few
push_down-requires-clause-few c =
    let loads = long_each c.args.plan.now.steps c.push_each.new.plan.steps c.args.members.now own.Load c.args.gather.now.part c.push_each.ensures.steps in
    let ups = long_up c.push_each.new.plan.steps c.push_up.new.plan.steps c.args.members.now c.args.edges.now c.join.result c.push_up.ensures.steps in
    let count = c.requires.route.count in
    let root = c.requires.root in
    let few = c.requires.few in
    omega arith

pub push_each-requires-2-clause-few : goal.push_each-requires-2-clause-few
push_each-requires-2-clause-few c =
    let loads = long_each c.args.plan.now.steps c.push_each.new.plan.steps c.args.members.now own.Load c.args.gather.now.part c.push_each.ensures.steps in
    let ups = long_up c.push_each.new.plan.steps c.push_up.new.plan.steps c.args.members.now c.args.edges.now c.join.result c.push_up.ensures.steps in
    let downs = long_down c.push_up.new.plan.steps c.push_down.new.plan.steps c.args.members.now c.args.edges.now c.spread.result c.push_down.ensures.steps in
    let count = c.requires.route.count in
    let root = c.requires.root in
    let few = c.requires.few in
    omega arith

pub returns-clause-steps : goal.returns-clause-steps
returns-clause-steps c =
    let loads : List (ℕ × RankOp) = plan_each (rank_in c.args.members.now) (own_op own.Load c.args.gather.now.part) (length c.args.members.now) in
    let up : Relay → List (ℕ × RankOp) = λ r. plan_passing (rank_in c.args.members.now) (relay_send r (rank_in c.args.members.now)) (relay_receive r (rank_in c.args.members.now)) (turned c.args.edges.now) in
    let down : Relay → List (ℕ × RankOp) = λ r. plan_passing (rank_in c.args.members.now) (relay_send r (rank_in c.args.members.now)) (relay_receive r (rank_in c.args.members.now)) c.args.edges.now in
    let last : List (ℕ × RankOp) = plan_each (rank_in c.args.members.now) (own_op (own.Store c.args.gather.now.coords) c.args.gather.now.part) (length c.args.members.now) in
    let len : ℕ = element_count c.args.gather.now.part in
    let two = appended_two c.args.plan.now.steps loads (up c.join.result) c.push_each.new.plan.steps c.push_up.new.plan.steps c.push_each.ensures.steps c.push_up.ensures.steps in
    let three = appended_two c.args.plan.now.steps (loads ++ up c.join.result) (down c.spread.result) c.push_up.new.plan.steps c.push_down.new.plan.steps two c.push_down.ensures.steps in
    appended_two c.args.plan.now.steps (loads ++ up c.join.result ++ down c.spread.result) last c.push_down.new.plan.steps c.push_each-2.new.plan.steps three c.push_each-2.ensures.steps
    ∙ ap (λ (r : Relay). c.args.plan.now.steps ++ (loads ++ up r ++ down c.spread.result ++ last)) c.join.ensures
    ∙ ap (λ (r : Relay). c.args.plan.now.steps ++ (loads ++ up (relay.Join len c.args.gather.now.fold) ++ down r ++ last)) c.spread.ensures
