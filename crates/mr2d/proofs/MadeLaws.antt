-- Operations that can be done from a world are well made, and of ranks that are there.
use Rattle.std.specs.Prelude.{◌≡◌, ℕ, ◌<◌, List, [], ◌∷◌, length, slice_get, Option, Some, None, IsSomeAnd}
use Rattle.std.proofs.Common.{◌∙◌, subst, refl, arith}
use Rattle.std.proofs.lemmas.List.{length-set}
use Rattle.msg_core.specs.Kinds.{Kind, Send, Recv, Local}
use Rattle.msg_core.specs.InOrder.{World, waiting, or_none, world_by, CanGo}
use Rattle.msg_core.proofs.Lists.{within_get}
use Rattle.msg_core.proofs.GrowingPlans.{step_is}
use Rattle.pack_words.specs.declared.rank_op.RankOp.{RankOp}
use Rattle.pack_words.specs.RankOps.{RankState, CanDo, IsWellMade, rank_kind, rank_absorbed, rank_acted}
use Rattle.pack_words.specs.RankLaws.{can_is_well_made}
use Rattle.pack_words.specs.GridState.{rank_steps, rank_nodes}

some_node : (m : Option RankState) (o : RankOp) → IsSomeAnd m (λ p. CanDo p o) → (n : RankState) × (m ≡ Some n) × CanDo n o
some_node (Some n) o h = (n, refl, h)
some_node None o h = absurd h

-- a step keeps the number of ranks
ranks_stay : (K : Kind) (r : ℕ) (o : RankOp) (n : RankState) (w : World RankState) → length (world_by rank_steps rank_nodes K r o n w).nodes ≡ length w.nodes
ranks_stay (Send to len) r o n w = refl
ranks_stay (Recv from len) r o n w = length-set w.nodes r (rank_absorbed n o (or_none (waiting w from r)))
ranks_stay Local r o n w = length-set w.nodes r (rank_acted n o)

-- each operation that can be done is well made and of a rank that is there
abbrev pub AllMade : ℕ → List (ℕ × RankOp) → Type 0
AllMade ranks [] = Unit {0}
AllMade ranks (x ∷ xs) = IsWellMade x.1 × (x.0 < ranks) × AllMade ranks xs

pub all_made : (xs : List (ℕ × RankOp)) (w : World RankState) (ranks : ℕ) → length w.nodes ≡ ranks → CanGo rank_steps rank_nodes xs w → AllMade ranks xs
all_made [] w ranks e can = tt
all_made (x ∷ xs) w ranks e can =
    let n = some_node (slice_get w.nodes x.0) x.1 can.0 in
    let low : x.0 < length w.nodes = within_get w.nodes x.0 n.0 n.1 in
    let next : CanGo rank_steps rank_nodes xs (world_by rank_steps rank_nodes (rank_kind x.1) x.0 x.1 n.0 w) = subst (λ (v : World RankState). CanGo rank_steps rank_nodes xs v) (step_is rank_steps rank_nodes x w n.0 n.1) can.2 in
    (can_is_well_made n.0 x.1 n.2, omega arith, all_made xs (world_by rank_steps rank_nodes (rank_kind x.1) x.0 x.1 n.0 w) ranks (ranks_stay (rank_kind x.1) x.0 x.1 n.0 w ∙ e) next)
