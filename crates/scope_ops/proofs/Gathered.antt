-- What the accumulators of the members hold in the end of a combine: the folds of the words of the scope.
use Rattle.std.specs.Prelude.{◌≡◌, ℕ, ◌<◌, ℤ, pos, List, slice_index_or}
use Rattle.std.specs.Int.{int_wrap, w32}
use Rattle.std.proofs.Common.{◌∙◌, refl, arith}
use Rattle.fold_ops.specs.declared.held.Held.{Held}
use Rattle.fold_ops.specs.Join.{max_joined, min_joined}
use Rattle.route_tree.specs.Routes.{IsRoute}
use Rattle.route_laws.specs.Passing.{along}
use Rattle.route_plans.specs.PlanPassing.{taken_in, gathered_up}
use Rattle.route_plans.specs.Gathering.{IsAccumulator, Loads, Moves, words_of_scope, AreReady}
use Rattle.route_plans.proofs.AccumulatorLaws.{made_element, made_length, pairs_join, values_add, pairs_replace, values_replace, max_keeps_places, min_keeps_places}
use Rattle.route_plans.proofs.GatheringLaws.{gathers_greatest, gathers_least, gathers_sum, gathers_rest, gathers_good, spreads_greatest, spreads_least, spreads_sum, spreads_rest, spreads_good}
use Rattle.pack_words.specs.declared.fold_kind.FoldKind.{FoldKind}
use Rattle.pack_words.specs.declared.fold_kind.FoldKind.TheVariants.{Sum, AbsMax, AbsMin}
use Rattle.pack_words.specs.declared.shape.Shape.TheVariants.{Ge}
use Rattle.pack_words.specs.Accumulators.{element_of, value_of, pairs_message, values_message, held_message, has_places, joined_by, joined_with, added_with, replaced_by, replaced_by_pairs, replaced_by_values}
use Rattle.pack_words.specs.WholeRegions.{whole_words}
use Rattle.pack_words.specs.RankOps.{RankState, array_at}
use Rattle.pack_words.specs.GridState.{rank_nodes, arrays_held}
use Rattle.pack_words.specs.Parts.{part_region}
use Rattle.scope_ops.specs.declared.part.Part.{Part}
use Rattle.scope_ops.specs.declared.relay.Relay.TheVariants as relay
use Rattle.scope_ops.specs.declared.own.Own.TheVariants as own
use Rattle.scope_ops.specs.Parts.{cut_of}
use Rattle.scope_ops.specs.Combines.{fold_of}
use Rattle.scope_ops.specs.CombineOps.{element_count, relay_send, relay_receive, own_op}

abbrev pub acc_of : RankState → List Held
acc_of n = n.held

-- the word that a member loads
abbrev pub own_word : Part → ℕ → RankState → ℕ → ℤ
own_word part p n k = int_wrap w32 (slice_index_or (whole_words (part_region (cut_of Ge part) part.i part.j) (array_at n part.array)) k (pos 0))

loads : (part : Part) → Loads rank_nodes (element_count part) acc_of arrays_held (own_word part) (own_op own.Load part)
loads part = record {
  elements = λ p a room k lt. made_element (λ j. record { value = own_word part p a j; place = p }) (element_count part) a.held k lt;
  room = λ p a room. let same = made_length (λ j. record { value = own_word part p a j; place = p }) (element_count part) a.held room in omega arith;
  rest_stays = λ p a. refl;
}

-- an element of an accumulator is a fold: of a sum its value alone
abbrev pub Agrees : FoldKind → Held → Held → Type 0
Agrees Sum h f = h.value ≡ f.value
Agrees AbsMax h f = h ≡ f
Agrees AbsMin h f = h ≡ f

module _ (fold : FoldKind) (part : Part) (n root : ℕ) (edges : List (ℕ × ℕ)) (rank : ℕ → ℕ) (memory : ℕ → RankState) where
  abbrev pub up : ℕ → RankState
  up = gathered_up rank_nodes (own_op own.Load part) (relay_send (relay.Join (element_count part) fold) rank) (relay_receive (relay.Join (element_count part) fold) rank) edges memory

  abbrev pub down : ℕ → RankState
  down = along (taken_in rank_nodes (relay_send (relay.Spread (element_count part) fold) rank) (relay_receive (relay.Spread (element_count part) fold) rank)) edges (gathered_up rank_nodes (own_op own.Load part) (relay_send (relay.Join (element_count part) fold) rank) (relay_receive (relay.Join (element_count part) fold) rank) edges memory)

  joins : Moves rank_nodes acc_of arrays_held (relay_send (relay.Join (element_count part) fold) rank) (relay_receive (relay.Join (element_count part) fold) rank) (λ e child parent. joined_by fold (element_count part) parent (held_message (has_places fold) (element_count part) child))
  joins = record { elements = λ e a b. refl; rest_stays = λ e a b. refl }

  spreads : Moves rank_nodes acc_of arrays_held (relay_send (relay.Spread (element_count part) fold) rank) (relay_receive (relay.Spread (element_count part) fold) rank) (λ e start end. replaced_by (has_places fold) (element_count part) end (held_message (has_places fold) (element_count part) start))
  spreads = record { elements = λ e a b. refl; rest_stays = λ e a b. refl }

  -- no array is touched on the way
  pub up_rest : (p : ℕ) → (up p).arrays ≡ (memory p).arrays
  up_rest p = gathers_rest rank_nodes n (element_count part) root edges acc_of arrays_held (own_word part) (own_op own.Load part) (relay_send (relay.Join (element_count part) fold) rank) (relay_receive (relay.Join (element_count part) fold) rank) memory
      (λ e child parent. joined_by fold (element_count part) parent (held_message (has_places fold) (element_count part) child)) (loads part) joins p

  pub down_rest : (p : ℕ) → (down p).arrays ≡ (memory p).arrays
  down_rest p = spreads_rest rank_nodes n (element_count part) root edges acc_of arrays_held (relay_send (relay.Spread (element_count part) fold) rank) (relay_receive (relay.Spread (element_count part) fold) rank) up
      (λ e start end. replaced_by (has_places fold) (element_count part) end (held_message (has_places fold) (element_count part) start)) spreads p ∙ up_rest p

-- the root's elements are the folds of the words of the scope, and in the end all members'
module _ (part : Part) (n root : ℕ) (edges : List (ℕ × ℕ)) (rank : ℕ → ℕ) (memory : ℕ → RankState) (s_in : root < n) (route : IsRoute n root edges) (ready : AreReady n (element_count part) acc_of (own_word part) memory) where
  pub up_good : (fold : FoldKind) (p : ℕ) → p < n → IsAccumulator (element_count part) (acc_of (up fold part n root edges rank memory p))
  up_good Sum p lt = gathers_good rank_nodes n (element_count part) root edges acc_of arrays_held (own_word part) (own_op own.Load part) (relay_send (relay.Join (element_count part) Sum) rank) (relay_receive (relay.Join (element_count part) Sum) rank) memory
      (λ e child parent. added_with (element_count part) parent (values_message (element_count part) child)) value_of _ (values_add (element_count part)) route (loads part) ready (joins Sum part n root edges rank memory) p lt
  up_good AbsMax p lt = gathers_good rank_nodes n (element_count part) root edges acc_of arrays_held (own_word part) (own_op own.Load part) (relay_send (relay.Join (element_count part) AbsMax) rank) (relay_receive (relay.Join (element_count part) AbsMax) rank) memory
      (λ e child parent. joined_with max_joined (element_count part) parent (pairs_message (element_count part) child)) element_of _ (pairs_join max_joined max_keeps_places (element_count part)) route (loads part) ready (joins AbsMax part n root edges rank memory) p lt
  up_good AbsMin p lt = gathers_good rank_nodes n (element_count part) root edges acc_of arrays_held (own_word part) (own_op own.Load part) (relay_send (relay.Join (element_count part) AbsMin) rank) (relay_receive (relay.Join (element_count part) AbsMin) rank) memory
      (λ e child parent. joined_with min_joined (element_count part) parent (pairs_message (element_count part) child)) element_of _ (pairs_join min_joined min_keeps_places (element_count part)) route (loads part) ready (joins AbsMin part n root edges rank memory) p lt

  pub down_good : (fold : FoldKind) (p : ℕ) → p < n → IsAccumulator (element_count part) (acc_of (down fold part n root edges rank memory p))
  down_good Sum p lt = spreads_good rank_nodes n (element_count part) root edges acc_of arrays_held (relay_send (relay.Spread (element_count part) Sum) rank) (relay_receive (relay.Spread (element_count part) Sum) rank) (up Sum part n root edges rank memory)
      (λ e start end. replaced_by_values (element_count part) end (values_message (element_count part) start)) value_of _ (values_replace (element_count part)) route (up_good Sum) (spreads Sum part n root edges rank memory) p lt
  down_good AbsMax p lt = spreads_good rank_nodes n (element_count part) root edges acc_of arrays_held (relay_send (relay.Spread (element_count part) AbsMax) rank) (relay_receive (relay.Spread (element_count part) AbsMax) rank) (up AbsMax part n root edges rank memory)
      (λ e start end. replaced_by_pairs (element_count part) end (pairs_message (element_count part) start)) element_of _ (pairs_replace (element_count part)) route (up_good AbsMax) (spreads AbsMax part n root edges rank memory) p lt
  down_good AbsMin p lt = spreads_good rank_nodes n (element_count part) root edges acc_of arrays_held (relay_send (relay.Spread (element_count part) AbsMin) rank) (relay_receive (relay.Spread (element_count part) AbsMin) rank) (up AbsMin part n root edges rank memory)
      (λ e start end. replaced_by_pairs (element_count part) end (pairs_message (element_count part) start)) element_of _ (pairs_replace (element_count part)) route (up_good AbsMin) (spreads AbsMin part n root edges rank memory) p lt

  pub up_folds : (fold : FoldKind) (k : ℕ) → k < element_count part → Agrees fold (element_of (acc_of (up fold part n root edges rank memory root)) k) (fold_of fold (words_of_scope n (own_word part) memory k))
  up_folds Sum k lt = gathers_sum rank_nodes n (element_count part) root edges acc_of arrays_held (own_word part) (own_op own.Load part) (relay_send (relay.Join (element_count part) Sum) rank) (relay_receive (relay.Join (element_count part) Sum) rank) memory s_in route (loads part) ready (joins Sum part n root edges rank memory) k lt
  up_folds AbsMax k lt = gathers_greatest rank_nodes n (element_count part) root edges acc_of arrays_held (own_word part) (own_op own.Load part) (relay_send (relay.Join (element_count part) AbsMax) rank) (relay_receive (relay.Join (element_count part) AbsMax) rank) memory s_in route (loads part) ready (joins AbsMax part n root edges rank memory) k lt
  up_folds AbsMin k lt = gathers_least rank_nodes n (element_count part) root edges acc_of arrays_held (own_word part) (own_op own.Load part) (relay_send (relay.Join (element_count part) AbsMin) rank) (relay_receive (relay.Join (element_count part) AbsMin) rank) memory s_in route (loads part) ready (joins AbsMin part n root edges rank memory) k lt

  pub down_folds : (fold : FoldKind) (p : ℕ) → p < n → (k : ℕ) → k < element_count part → Agrees fold (element_of (acc_of (down fold part n root edges rank memory p)) k) (fold_of fold (words_of_scope n (own_word part) memory k))
  down_folds Sum p lt k k_lt = spreads_sum rank_nodes n (element_count part) root edges acc_of arrays_held (own_word part) (own_op own.Load part) (relay_send (relay.Join (element_count part) Sum) rank) (relay_receive (relay.Join (element_count part) Sum) rank)
      (relay_send (relay.Spread (element_count part) Sum) rank) (relay_receive (relay.Spread (element_count part) Sum) rank) memory s_in route (loads part) ready (joins Sum part n root edges rank memory) (spreads Sum part n root edges rank memory) p lt k k_lt
  down_folds AbsMax p lt k k_lt = spreads_greatest rank_nodes n (element_count part) root edges acc_of arrays_held (own_word part) (own_op own.Load part) (relay_send (relay.Join (element_count part) AbsMax) rank) (relay_receive (relay.Join (element_count part) AbsMax) rank)
      (relay_send (relay.Spread (element_count part) AbsMax) rank) (relay_receive (relay.Spread (element_count part) AbsMax) rank) memory s_in route (loads part) ready (joins AbsMax part n root edges rank memory) (spreads AbsMax part n root edges rank memory) p lt k k_lt
  down_folds AbsMin p lt k k_lt = spreads_least rank_nodes n (element_count part) root edges acc_of arrays_held (own_word part) (own_op own.Load part) (relay_send (relay.Join (element_count part) AbsMin) rank) (relay_receive (relay.Join (element_count part) AbsMin) rank)
      (relay_send (relay.Spread (element_count part) AbsMin) rank) (relay_receive (relay.Spread (element_count part) AbsMin) rank) memory s_in route (loads part) ready (joins AbsMin part n root edges rank memory) (spreads AbsMin part n root edges rank memory) p lt k k_lt
