-- How many operations a combine appends step by step, and which members stay free.
use Rattle.std.proofs.Common.{◌≡◌, ℕ, ◌+◌, ◌*◌, List, ◌++◌, length, ap, ◌∙◌, arith, append_assoc, length-append}
use Rattle.std.proofs.lemmas.List.FromFn.{length-map-range_with_len}
use Rattle.msg_core.specs.Plans.{PlanView}
use Rattle.route_tree.specs.Routes.{IsRoute}
use Rattle.route_laws.specs.Passing.{turned}
use Rattle.route_laws.proofs.DoingLaws.{length-turned}
use Rattle.route_plans.specs.Members.{rank_in, AreFree}
use Rattle.route_plans.specs.PlanSteps.{own_step, plan_each, plan_passing}
use Rattle.route_plans.proofs.CallLaws.{free_after_each}
use Rattle.route_plans.proofs.GoingLaws.{free_up, free_down, free_after, length_after}
use Rattle.pack_words.specs.declared.rank_op.RankOp.{RankOp}
use Rattle.pack_words.specs.GridState.{rank_steps}
use Rattle.scope_ops.specs.declared.part.Part.{Part}
use Rattle.scope_ops.specs.declared.own.Own.{Own}
use Rattle.scope_ops.specs.declared.relay.Relay.{Relay}
use Rattle.scope_ops.specs.CombineOps.{own_op, relay_send, relay_receive}
use Rattle.scope_ops.proofs.Owns.{own_kind}
use Rattle.scope_ops.proofs.Relays.{relay_lengths}

pub long_each : (old new : List (ℕ × RankOp)) (members : List ℕ) (o : Own) (part : Part) → new ≡ old ++ plan_each (rank_in members) (own_op o part) (length members) → length new ≡ length old + length members
long_each old new members o part is =
    let both : length (old ++ plan_each (rank_in members) (own_op o part) (length members)) ≡ length old + length (plan_each (rank_in members) (own_op o part) (length members)) = length-append old (plan_each (rank_in members) (own_op o part) (length members)) in
    let some : length (plan_each (rank_in members) (own_op o part) (length members)) ≡ length members = length-map-range_with_len (own_step (rank_in members) (own_op o part)) 0 (length members) in
    ap (λ (xs : List (ℕ × RankOp)). length xs) is ∙ omega arith

pub long_up : (old new : List (ℕ × RankOp)) (members : List ℕ) (edges : List (ℕ × ℕ)) (r : Relay) → new ≡ old ++ plan_passing (rank_in members) (relay_send r (rank_in members)) (relay_receive r (rank_in members)) (turned edges) → length new ≡ length old + 2 * length edges
long_up old new members edges r is =
    let size : length (turned edges) ≡ length edges = length-turned edges in
    length_after (relay_send r (rank_in members)) (relay_receive r (rank_in members)) old new (rank_in members) (turned edges) is ∙ omega arith

pub long_down : (old new : List (ℕ × RankOp)) (members : List ℕ) (edges : List (ℕ × ℕ)) (r : Relay) → new ≡ old ++ plan_passing (rank_in members) (relay_send r (rank_in members)) (relay_receive r (rank_in members)) edges → length new ≡ length old + 2 * length edges
long_down old new members edges r is = length_after (relay_send r (rank_in members)) (relay_receive r (rank_in members)) old new (rank_in members) edges is

pub free_each : (members : List ℕ) (o : Own) (part : Part) (p q : PlanView RankOp) → AreFree rank_steps members p → q.ranks ≡ p.ranks → q.steps ≡ p.steps ++ plan_each (rank_in members) (own_op o part) (length members) → AreFree rank_steps members q
free_each members o part p q free ranks steps = free_after_each rank_steps members (own_op o part) (own_kind o part) (length members) p q free ranks steps

pub free_through_up : (members : List ℕ) (root : ℕ) (edges : List (ℕ × ℕ)) (r : Relay) (p q : PlanView RankOp) → IsRoute (length members) root edges → AreFree rank_steps members p → q.ranks ≡ p.ranks
    → q.steps ≡ p.steps ++ plan_passing (rank_in members) (relay_send r (rank_in members)) (relay_receive r (rank_in members)) (turned edges) → AreFree rank_steps members q
free_through_up members root edges r p q route free ranks steps = free_after rank_steps members (relay_send r (rank_in members)) (relay_receive r (rank_in members)) (relay_lengths r (rank_in members)) p q (turned edges) free (free_up rank_steps members root edges p route free) ranks steps

pub free_through_down : (members : List ℕ) (root : ℕ) (edges : List (ℕ × ℕ)) (r : Relay) (p q : PlanView RankOp) → IsRoute (length members) root edges → AreFree rank_steps members p → q.ranks ≡ p.ranks
    → q.steps ≡ p.steps ++ plan_passing (rank_in members) (relay_send r (rank_in members)) (relay_receive r (rank_in members)) edges → AreFree rank_steps members q
free_through_down members root edges r p q route free ranks steps = free_after rank_steps members (relay_send r (rank_in members)) (relay_receive r (rank_in members)) (relay_lengths r (rank_in members)) p q edges free (free_down rank_steps members root edges p route free) ranks steps

-- one list appended after another
pub appended_two : (old xs ys middle new : List (ℕ × RankOp)) → middle ≡ old ++ xs → new ≡ middle ++ ys → new ≡ old ++ (xs ++ ys)
appended_two old xs ys middle new a b = b ∙ ap (λ (l : List (ℕ × RankOp)). l ++ ys) a ∙ append_assoc old xs ys
