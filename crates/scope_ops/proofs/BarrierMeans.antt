-- A barrier changes nothing.
use Rattle.std.specs.Prelude.{◌≡◌, ℕ, ◌<◌, false, Option, IsSomeAnd, List, length, map, slice_get}
use Rattle.std.proofs.Common.{sym, ap, ◌∙◌, refl, subst, arith}
use Rattle.std.proofs.lemmas.List.{length-map}
use Rattle.std.proofs.lemmas.Option.{slice_get-get_or}
use Rattle.msg_core.specs.InOrder.{World, in_order, CanGo}
use Rattle.msg_core.specs.Plans.{PlanView, waiting_lens, AllCan}
use Rattle.msg_core.proofs.GrowingPlans.{Matches, can_go, matches_after}
use Rattle.route_tree.specs.Routes.{IsRoute}
use Rattle.route_laws.specs.Passing.{along, turned}
use Rattle.route_laws.proofs.AlongLaws.{along_keeps}
use Rattle.route_plans.specs.Members.{rank_in}
use Rattle.route_plans.specs.PlanPassing.{memory_of, taken_in}
use Rattle.route_plans.proofs.PlanLaws.{barrier_done}
use Rattle.route_plans.proofs.CallLaws.{are_quiet, barrier_leaves, barrier_can}
use Rattle.pack_words.specs.declared.rank_op.RankOp.{RankOp}
use Rattle.pack_words.specs.RankOps.{RankState, CanDo}
use Rattle.pack_words.specs.GridState.{GridState, Shows, Means, arrays_held, rank_steps, rank_nodes}
use Rattle.pack_words.specs.GridShapes.{ShapesView}
use Rattle.pack_words.specs.GridPlans.{IsOf}
use Rattle.pack_words.specs.LocalCells.{LocalCells}
use Rattle.scope_ops.specs.declared.relay.Relay.TheVariants as relay
use Rattle.scope_ops.specs.Broadcasts.{AreMembers, IsQuiet}
use Rattle.scope_ops.specs.CombineOps.{relay_send, relay_receive, barrier_ops}
use Rattle.scope_ops.proofs.Along.{numbered_kept}
use Rattle.scope_ops.proofs.Relays.{relay_lengths, relay_along}
use Rattle.scope_ops.proofs.CombineShown.{shown_arrays}
use Rattle.scope_ops.proofs.CombineMeans.{lawful, no_memory}

pub barrier_means : (v : ShapesView) (p : PlanView RankOp) (ranks : List ℕ) (root : ℕ) (edges : List (ℕ × ℕ)) → AreMembers v.ranks ranks → IsRoute (length ranks) root edges → IsQuiet p ranks
    → Means (barrier_ops ranks edges) (IsOf v p) (λ s. s)
barrier_means v p ranks root edges ms route quiet = record { means = λ w s is of room. at w s is of }
  where
    at : (w : World RankState) (s : GridState) → Shows w s → IsOf v p s → CanGo rank_steps rank_nodes (barrier_ops ranks edges) w × Shows (in_order rank_steps rank_nodes (barrier_ops ranks edges) w) s
    at w s is of =
        let matches : Matches (waiting_lens rank_steps p) w = λ i j. (is.taken_were_sent i j, of.lens_are i j ∙ ap (λ l. map length l) (sym (is.waits_are i j))) in
        let count : length w.nodes ≡ v.ranks = sym (length-map w.nodes arrays_held) ∙ ap (λ (css : List (List LocalCells)). length css) is.arrays_are ∙ (of.shaped).ranks_are in
        let within : (k : ℕ) → k < length ranks → rank_in ranks k < length w.nodes = λ k lt. let h = ms.within k lt in omega arith in
        let able : (k : ℕ) → k < length ranks → (o : RankOp) → ((a : RankState) → CanDo a o) → IsSomeAnd (slice_get w.nodes (rank_in ranks k)) (λ a. CanDo a o) = λ k lt o can.
        let P : Option RankState → Type 0 = λ m. IsSomeAnd m (λ a. CanDo a o) in subst P (sym (slice_get-get_or w.nodes (rank_in ranks k) no_memory (within k lt))) (can (memory_of no_memory (rank_in ranks) w k)) in
        let send = relay_send relay.Pulse (rank_in ranks) in
        let receive = relay_receive relay.Pulse (rank_in ranks) in
        let all : AllCan rank_nodes w.nodes (barrier_ops ranks edges) = barrier_can rank_steps rank_nodes w.nodes (length ranks) root edges route (rank_in ranks) (relay_send relay.Pulse (rank_in ranks)) (relay_receive relay.Pulse (rank_in ranks))
        (λ e lt. able e.0 lt (relay_send relay.Pulse (rank_in ranks) e) (λ a. (tt, omega arith)))
        (λ e lt. able e.1 lt (relay_receive relay.Pulse (rank_in ranks) e) (λ a. (tt, omega arith))) in
        let leaves = barrier_leaves rank_steps (length ranks) root edges route (rank_in ranks) (relay_send relay.Pulse (rank_in ranks)) (relay_receive relay.Pulse (rank_in ranks)) (relay_lengths relay.Pulse (rank_in ranks)) (waiting_lens rank_steps p) quiet in
        let calm = are_quiet w (waiting_lens rank_steps p) matches (length ranks) (rank_in ranks) within (λ j k lj lk ne same. ne (ms.distinct j k lj lk same)) quiet in
        let done = barrier_done rank_steps rank_nodes no_memory (length ranks) root edges route (rank_in ranks) (relay_send relay.Pulse (rank_in ranks)) (relay_receive relay.Pulse (rank_in ranks)) (relay_along relay.Pulse (rank_in ranks)) w calm in
        let after = matches_after rank_steps rank_nodes lawful (barrier_ops ranks edges) w (waiting_lens rank_steps p) all leaves.order matches in
        let step : ℕ × ℕ → RankState → RankState → RankState = taken_in rank_nodes (relay_send relay.Pulse (rank_in ranks)) (relay_receive relay.Pulse (rank_in ranks)) in (
          can_go rank_steps rank_nodes lawful (barrier_ops ranks edges) w (waiting_lens rank_steps p) all leaves.order matches,
          record {
            arrays_are = shown_arrays w (in_order rank_steps rank_nodes (barrier_ops ranks edges) w) s (λ r. false) (λ cs. cs) no_memory (length ranks) (rank_in ranks) _ is done within
                (λ k lt. along_keeps arrays_held step (λ e a b. refl) edges (along step (turned edges) (memory_of no_memory (rank_in ranks) w)) k ∙ along_keeps arrays_held step (λ e a b. refl) (turned edges) (memory_of no_memory (rank_in ranks) w) k)
                (λ r miss. refl)
                ∙ numbered_kept 0 _ s.arrays (λ r cs. refl);
            waits_are = λ i j. done.else_as_before.queues i j ∙ is.waits_are i j;
            taken_were_sent = λ i j. (after i j).0;
          },
        )
