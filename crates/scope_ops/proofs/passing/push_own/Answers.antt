-- The room is there.
use Rattle.std.proofs.Common.{◌≡◌, sym, ap, ◌∙◌, subst, arith, [], ◌∷◌, ◌++◌}
use Rattle.msg_core.proofs.GrowingPlans.{push_ok, on_ok, local_passes}
use Rattle.pack_words.specs.declared.rank_op.RankOp.{RankOp}
use Rattle.pack_words.specs.RankOps.{rank_kind, IsWellMade}
use Rattle.pack_words.specs.GridState.{rank_steps}
use Rattle.route_plans.specs.Members.{rank_in}
use Rattle.scope_ops.proofs.Owns.{own_kind, own_made, loadable}
use Rattle.scope_ops.proofs.passing.push_own.Goals as goal

pub op-requires-clause-row : goal.op-requires-clause-row
op-requires-clause-row c = (loadable c.args.own c.args.part.now c.requires.part).row

pub op-requires-clause-column : goal.op-requires-clause-column
op-requires-clause-column c = (loadable c.args.own c.args.part.now c.requires.part).column

pub push_local-requires-clause-made : goal.push_local-requires-clause-made
push_local-requires-clause-made c = subst (λ (o : RankOp). IsWellMade o) (sym c.op.ensures) (own_made c.args.own c.args.part.now c.args.position c.requires.part)

pub push_local-requires-clause-kind : goal.push_local-requires-clause-kind
push_local-requires-clause-kind c = ap rank_kind c.op.ensures ∙ own_kind c.args.own c.args.part.now c.args.position

pub returns-clause-done : goal.returns-clause-done
returns-clause-done c =
    let few = c.requires.few in
    push_ok rank_steps c.args.plan.now (rank_in c.args.members.now c.args.position) c.op.result c.push_local.result
    (local_passes rank_steps c.args.plan.now (rank_in c.args.members.now c.args.position) c.op.result (ap rank_kind c.op.ensures ∙ own_kind c.args.own c.args.part.now c.args.position) (omega arith))
    c.push_local.ensures.fault
    (c.push_local.ensures.reserved c.requires.room)

pub returns-clause-steps : goal.returns-clause-steps
returns-clause-steps c =
    on_ok c.push_local.result (c.push_local.new.self.steps ≡ c.args.plan.now.steps ++ (rank_in c.args.members.now c.args.position, c.op.result) ∷ []) (returns-clause-done c) c.push_local.ensures.ok
    ∙ ap (λ (o : RankOp). c.args.plan.now.steps ++ (rank_in c.args.members.now c.args.position, o) ∷ []) c.op.ensures
