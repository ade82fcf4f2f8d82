-- An operation that its rank can do, appended or refused.
use Rattle.std.specs.Prelude.{◌≡◌, ℕ, Option, Some, Result, Ok, Err, OnOk, OnErr, List, [], ◌∷◌, ◌++◌, slice_get, IsSomeAnd}
use Rattle.std.proofs.Common.{sym, subst}
use Rattle.msg_core.specs.Plans.{AllCan}
use Rattle.msg_core.proofs.GrowingPlans.{all_can_join}
use Rattle.pack_words.specs.declared.rank_op.RankOp.{RankOp}
use Rattle.pack_words.specs.RankOps.{RankState, CanDo}
use Rattle.pack_words.specs.GridState.{rank_steps, rank_nodes}

pub all_after : {T E : Type 0} (result : Result T E) (nodes : List RankState) (old new : List (ℕ × RankOp)) (x : ℕ × RankOp) → OnOk result (new ≡ old ++ x ∷ []) → OnErr result (new ≡ old) → IsSomeAnd (slice_get nodes x.0) (λ n. CanDo n x.1) → AllCan rank_nodes nodes old → AllCan rank_nodes nodes new
all_after (Ok v) nodes old new x ok err can all = subst (λ (xs : List (ℕ × RankOp)). AllCan rank_nodes nodes xs) (sym ok) (all_can_join rank_steps rank_nodes nodes old (x ∷ []) all (can, tt))
all_after (Err e) nodes old new x ok err can all = subst (λ (xs : List (ℕ × RankOp)). AllCan rank_nodes nodes xs) (sym err) all

-- what the rank of that number can do
pub can_at : (nodes : List RankState) (r : ℕ) (n : RankState) (o : RankOp) → slice_get nodes r ≡ Some n → CanDo n o → IsSomeAnd (slice_get nodes r) (λ m. CanDo m o)
can_at nodes r n o here can = subst (λ (m : Option RankState). IsSomeAnd m (λ k. CanDo k o)) (sym here) can
