-- One member more.
use Rattle.std.proofs.Common.{◌≡◌, ℕ, ◌+◌, List, [], ◌∷◌, ◌++◌, length, map, sym, ap, ◌∙◌, arith, append_assoc, length-append}
use Rattle.std.specs.List.{range_with_len}
use Rattle.std.proofs.lemmas.List.FromFn.{length-map-range_with_len, map-range_with_len_more}
use Rattle.pack_words.specs.declared.rank_op.RankOp.{RankOp}
use Rattle.route_plans.specs.Members.{rank_in}
use Rattle.route_plans.specs.PlanSteps.{own_step}
use Rattle.scope_ops.specs.CombineOps.{own_op}
use Rattle.scope_ops.proofs.passing.push_each.Goals as goal

pub push_own-requires-clause-few : goal.push_own-requires-clause-few
push_own-requires-clause-few c =
    let f : ℕ → ℕ × RankOp = own_step (rank_in c.args.members.now) (own_op c.args.own c.args.part.now) in
    let size : length c.loop-k.plan.steps ≡ length (c.args.plan.now.steps ++ map f (range_with_len 0 c.loop-k.k)) = ap (λ (xs : List (ℕ × RankOp)). length xs) c.loop-k.invariant.steps in
    let both : length (c.args.plan.now.steps ++ map f (range_with_len 0 c.loop-k.k)) ≡ length c.args.plan.now.steps + length (map f (range_with_len 0 c.loop-k.k)) = length-append c.args.plan.now.steps (map f (range_with_len 0 c.loop-k.k)) in
    let some : length (map f (range_with_len 0 c.loop-k.k)) ≡ c.loop-k.k = length-map-range_with_len f 0 c.loop-k.k in
    let few = c.requires.few in
    omega arith

pub loop-k-preserved : goal.loop-k-preserved
loop-k-preserved c = record {
  steps =
      let f : ℕ → ℕ × RankOp = own_step (rank_in c.args.members.now) (own_op c.args.own c.args.part.now) in
      c.push_own.ensures.steps
      ∙ ap (λ (xs : List (ℕ × RankOp)). xs ++ f c.loop-k.k ∷ []) c.loop-k.invariant.steps
      ∙ append_assoc c.args.plan.now.steps (map f (range_with_len 0 c.loop-k.k)) (f c.loop-k.k ∷ [])
      ∙ ap (λ (xs : List (ℕ × RankOp)). c.args.plan.now.steps ++ xs) (sym (map-range_with_len_more f 0 c.loop-k.k c.loop-k.k (omega arith)));
  ranks = c.push_own.ensures.ranks ∙ c.loop-k.invariant.ranks;
  room = let a = c.push_own.ensures.room in let b = c.loop-k.invariant.room in omega arith;
}
