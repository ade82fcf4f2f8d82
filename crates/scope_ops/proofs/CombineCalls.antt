-- What a combine or a barrier appends, as its call promises it.
use Rattle.std.specs.Prelude.{◌≡◌, ℕ, ◌+◌, ◌-◌, ◌*◌, ◌/◌, ◌%◌, ◌<◌, ◌⊎◌, cond, Option, Some, None, is_none, Err, List, ◌++◌, length, slice_index}
use Rattle.std.specs.Option.{option_or}
use Rattle.std.proofs.Common.{sym, ap, ◌∙◌, refl, subst, inl, inr, arith, length-append}
use Rattle.std.proofs.Math.Nat.{mod-lt}
use Rattle.std.proofs.lemmas.Nat.{div_below}
use Rattle.msg_core.specs.Plans.{PlanView, sent_messages, sent_words, message_count, word_count}
use Rattle.msg_core.proofs.GrowingPlans.{messages_join, words_join}
use Rattle.proc_grid.specs.Grid.{Grid, IsGrid, place_of, rank_of, or_zero}
use Rattle.proc_grid.specs.Scopes.{IsScopeOf, members, position_in}
use Rattle.proc_grid.specs.declared.scope.Scope.{Scope}
use Rattle.proc_grid.specs.declared.scope.Scope.TheVariants.{Row, Column, All}
use Rattle.proc_grid.proofs.ScopeLemmas.{row_long, column_long, row_place, column_place, grid_place}
use Rattle.route_tree.specs.declared.top.Top.{Top}
use Rattle.route_tree.specs.declared.top.Top.TheVariants.{H}
use Rattle.route_tree.specs.Parents.{edges_of}
use Rattle.route_tree.specs.Routes.{IsRoute}
use Rattle.route_laws.proofs.DoingLaws.{combine_count, combine_for_all_count, barrier_count, combine_weight, combine_for_all_weight, barrier_weight}
use Rattle.route_plans.specs.Members.{rank_in, AreFree}
use Rattle.route_plans.specs.PlanSteps.{own_step}
use Rattle.pack_words.specs.declared.fold_kind.FoldKind.{FoldKind}
use Rattle.pack_words.specs.declared.fold_kind.FoldKind.TheVariants.{Sum, AbsMax, AbsMin}
use Rattle.pack_words.specs.declared.rank_op.RankOp.{RankOp}
use Rattle.pack_words.specs.Accumulators.{message_words, has_places}
use Rattle.pack_words.specs.Coordinates.{coord_place}
use Rattle.pack_words.specs.RankOps.{rank_kind}
use Rattle.pack_words.specs.GridState.{rank_steps}
use Rattle.pack_words.specs.GridShapes.{ShapesView}
use Rattle.pack_words.specs.GridPlans.{Appends, Grows}
use Rattle.scope_ops.specs.declared.part.Part.{Part}
use Rattle.scope_ops.specs.declared.gather.Gather.{Gather}
use Rattle.scope_ops.specs.declared.own.Own.TheVariants as own
use Rattle.scope_ops.specs.declared.relay.Relay.TheVariants as relay
use Rattle.scope_ops.specs.declared.scope_err.ScopeErr.{ScopeErr}
use Rattle.scope_ops.specs.declared.scope_err.ScopeErr.TheVariants.{NotInGrid, NoMemory}
use Rattle.scope_ops.specs.Refusals.{IsAnswer, many_fault}
use Rattle.scope_ops.specs.Broadcasts.{AreMembers, IsQuiet}
use Rattle.scope_ops.specs.Scopes.{IsListed}
use Rattle.scope_ops.specs.Combines.{or_corner, combine_line}
use Rattle.scope_ops.specs.CombineOps.{element_count, relay_words, own_op, coords_of, gathered_ops, barrier_ops, AllFitPart, RcFit, AreAskable, IsGathered, IsPulsed, IsAlong}
use Rattle.scope_ops.specs.CombineRefusals.{root_place, combine_messages, arrays_fault, combine_fault, barrier_fault}
use Rattle.scope_ops.specs.CombineRefusals as refusals
use Rattle.scope_ops.specs.Calls.{IsMade, IsCombineMade}
use Rattle.scope_ops.proofs.Relays.{sent_kind, received_kind}
use Rattle.scope_ops.proofs.Owns.{own_kind}
use Rattle.scope_ops.proofs.CombineMeans.{KnowsPlaces, one_means, all_mean}
use Rattle.scope_ops.proofs.BarrierMeans.{barrier_means}
use Rattle.scope_ops.proofs.Within.{grown_within, gathered_within, pulses_within}

-- ---- members and places

-- members between which no message waits are free
pub are_free : (p : PlanView RankOp) (ranks : List ℕ) → AreMembers p.ranks ranks → IsQuiet p ranks → AreFree rank_steps ranks p
are_free p ranks ms quiet = record { within = ms.within; differ = λ j k lj lk ne same. ne (ms.distinct j k lj lk same); free = quiet }

-- where the k-th member of a scope stands
places_told : (g : Grid) (scope : Scope) (ra ca k : ℕ) → IsGrid g → IsScopeOf g scope → k < length (members g scope) → place_of g (slice_index (members g scope) k) ≡ Some (coord_place (record { ra = ra; ca = ca; scope = scope; npcol = g.npcol }) k)
places_told g (Row p) ra ca k w is lt = row_place g p k w is (let l = row_long g p in omega arith)
places_told g (Column q) ra ca k w is lt = column_place g q k w is (let l = column_long g q in omega arith)
places_told g All ra ca k w is lt = grid_place g k w lt

places_small : (g : Grid) (scope : Scope) (ra ca k : ℕ) → IsGrid g → IsScopeOf g scope → k < length (members g scope)
    → ((coord_place (record { ra = ra; ca = ca; scope = scope; npcol = g.npcol }) k).0 < 64) × ((coord_place (record { ra = ra; ca = ca; scope = scope; npcol = g.npcol }) k).1 < 64)
places_small g (Row p) ra ca k w is lt = let l = row_long g p in let a = w.few_rows in let b = w.few_columns in (omega arith, omega arith)
places_small g (Column q) ra ca k w is lt = let l = column_long g q in let a = w.few_rows in let b = w.few_columns in (omega arith, omega arith)
places_small g All ra ca k w is lt =
    let some = w.some_columns in
    let column : k % g.npcol < g.npcol = mod-lt k some in
    let row : k / g.npcol < g.nprow = div_below k g.npcol g.nprow some (let f = w.filled in omega arith) in
    let a = w.few_rows in
    let b = w.few_columns in
    (omega arith, omega arith)

knows : (g : Grid) (scope : Scope) → IsGrid g → IsScopeOf g scope → KnowsPlaces g scope g.npcol (members g scope)
knows g scope w is = record {
  small = λ k lt.
      let P : Option (ℕ × ℕ) → Type 0 = λ o. ((or_corner o).0 < 64) × ((or_corner o).1 < 64) in
      subst P (sym (places_told g scope 0 0 k w is lt)) (places_small g scope 0 0 k w is lt);
  tell = λ ra ca k lt. sym (ap or_corner (places_told g scope ra ca k w is lt));
  some = w.some_columns;
}

-- ---- what is appended

abbrev gather_of : Grid → Scope → FoldKind → Part → Option (ℕ × ℕ) → Gather
gather_of g scope fold part rc = record { fold = fold; part = part; coords = coords_of scope g.npcol rc }

combine_appends : (g : Grid) (v : ShapesView) (p q : PlanView RankOp) (top : Top) (scope : Scope) (dest : Option (ℕ × ℕ)) (fold : FoldKind) (part : Part) (rc : Option (ℕ × ℕ)) (ranks : List ℕ) (k : ℕ)
    → IsListed g v scope (root_place scope dest) ranks k → AllFitPart v ranks part → RcFit v ranks part rc → AreAskable fold rc → IsQuiet p (members g scope) → IsGathered p q top ranks k (gather_of g scope fold part rc) dest → q.ranks ≡ p.ranks
    → Appends v p q (combine_line g scope dest fold part rc)
combine_appends g v p q top scope (Some place) fold part rc ranks k is fits rc_fits ask quiet gathered same =
    let calm : IsQuiet p ranks = subst (λ (rs : List ℕ). IsQuiet p rs) (sym is.ranks_are) quiet in
    let known : KnowsPlaces g scope g.npcol ranks = subst (λ (rs : List ℕ). KnowsPlaces g scope g.npcol rs) (sym is.ranks_are) (knows g scope is.grid is.place_is.scope_is) in
    let at : slice_index ranks k ≡ rank_of g place = ap (λ rs. slice_index rs k) is.ranks_are ∙ sym (ap or_zero is.place_is.rank_is) in
    record {
      added = gathered_ops ranks k (edges_of top (length ranks) k) (gather_of g scope fold part rc) (Some place);
      ranks_are = same;
      steps_are = gathered.steps_are;
      means = record { means = λ world s shown of room. one_means v p ranks k (edges_of top (length ranks) k) fold part rc scope g.npcol g is.members_are is.few is.within gathered.route calm fits rc_fits ask known world s shown of place is.ranks_are at room };
    }
combine_appends g v p q top scope None fold part rc ranks k is fits rc_fits ask quiet gathered same =
    let calm : IsQuiet p ranks = subst (λ (rs : List ℕ). IsQuiet p rs) (sym is.ranks_are) quiet in
    let known : KnowsPlaces g scope g.npcol ranks = subst (λ (rs : List ℕ). KnowsPlaces g scope g.npcol rs) (sym is.ranks_are) (knows g scope is.grid is.place_is.scope_is) in
    record {
      added = gathered_ops ranks k (edges_of top (length ranks) k) (gather_of g scope fold part rc) None;
      ranks_are = same;
      steps_are = gathered.steps_are;
      means = record { means = λ world s shown of room. all_mean v p ranks k (edges_of top (length ranks) k) fold part rc scope g.npcol g is.members_are is.few is.within gathered.route calm fits rc_fits ask known world s shown of is.ranks_are room };
    }

pub combine_along : (g : Grid) (v : ShapesView) (p q : PlanView RankOp) (top : Top) (scope : Scope) (dest : Option (ℕ × ℕ)) (fold : FoldKind) (part : Part) (rc : Option (ℕ × ℕ)) (ranks : List ℕ) (k : ℕ)
    → IsListed g v scope (root_place scope dest) ranks k → IsGathered p q top ranks k (gather_of g scope fold part rc) dest → IsAlong p q g scope top fold part rc dest
combine_along g v p q top scope dest fold part rc ranks k is gathered =
    gathered.steps_are
    ∙ ap (λ rs. p.steps ++ gathered_ops rs k (edges_of top (length rs) k) (gather_of g scope fold part rc) dest) is.ranks_are
    ∙ ap (λ (o : Option ℕ). p.steps ++ gathered_ops (members g scope) (or_zero o) (edges_of top (length (members g scope)) (or_zero o)) (gather_of g scope fold part rc) dest) (sym is.position)

-- ---- how much is appended

abbrev messages_by : ℕ × RankOp → ℕ
messages_by x = sent_messages (rank_kind x.1)

abbrev words_by : ℕ × RankOp → ℕ
words_by x = sent_words (rank_kind x.1)

relay_long : (fold : FoldKind) (len : ℕ) → relay_words (relay.Join len fold) ≡ message_words (has_places fold) len
relay_long Sum len = refl
relay_long AbsMax len = refl
relay_long AbsMin len = refl

spread_long : (fold : FoldKind) (len : ℕ) → relay_words (relay.Spread len fold) ≡ message_words (has_places fold) len
spread_long Sum len = refl
spread_long AbsMax len = refl
spread_long AbsMin len = refl

gathered_long : (ranks : List ℕ) (root : ℕ) (edges : List (ℕ × ℕ)) (gather : Gather) (dest : Option (ℕ × ℕ)) → 0 < length ranks → IsRoute (length ranks) root edges → length (gathered_ops ranks root edges gather dest) ≡ refusals.combine_count (length ranks) dest
gathered_long ranks root edges gather (Some place) some route = combine_count (length ranks) root edges some route _ _ _ (own_step (rank_in ranks) (own_op (own.Store gather.coords) gather.part))
gathered_long ranks root edges gather None some route = combine_for_all_count (length ranks) root edges some route _ _ _ _ _ _

gathered_messages : (ranks : List ℕ) (root : ℕ) (edges : List (ℕ × ℕ)) (gather : Gather) (dest : Option (ℕ × ℕ)) → IsRoute (length ranks) root edges → message_count rank_steps (gathered_ops ranks root edges gather dest) ≡ combine_messages (length ranks) dest
gathered_messages ranks root edges gather (Some place) route =
    combine_weight (length ranks) root edges route _ _ _ (own_step (rank_in ranks) (own_op (own.Store gather.coords) gather.part)) messages_by 1 (λ p. ap sent_messages (own_kind own.Load gather.part p)) (λ e. ap sent_messages (sent_kind (relay.Join (element_count gather.part) gather.fold) (rank_in ranks e.1))) (λ e. ap sent_messages (received_kind (relay.Join (element_count gather.part) gather.fold) (rank_in ranks e.0)))
    (λ p. ap sent_messages (own_kind (own.Store gather.coords) gather.part p)) ∙ omega arith
gathered_messages ranks root edges gather None route =
    combine_for_all_weight (length ranks) root edges route _ _ _ _ _ _ messages_by 1 (λ p. ap sent_messages (own_kind own.Load gather.part p)) (λ e. ap sent_messages (sent_kind (relay.Join (element_count gather.part) gather.fold) (rank_in ranks e.1))) (λ e. ap sent_messages (received_kind (relay.Join (element_count gather.part) gather.fold) (rank_in ranks e.0)))
    (λ e. ap sent_messages (sent_kind (relay.Spread (element_count gather.part) gather.fold) (rank_in ranks e.1))) (λ e. ap sent_messages (received_kind (relay.Spread (element_count gather.part) gather.fold) (rank_in ranks e.0)))
    (λ p. ap sent_messages (own_kind (own.Store gather.coords) gather.part p)) ∙ omega arith

gathered_words : (ranks : List ℕ) (root : ℕ) (edges : List (ℕ × ℕ)) (gather : Gather) (dest : Option (ℕ × ℕ)) → IsRoute (length ranks) root edges → word_count rank_steps (gathered_ops ranks root edges gather dest) ≡ combine_messages (length ranks) dest * message_words (has_places gather.fold) (element_count gather.part)
gathered_words ranks root edges gather (Some place) route =
    combine_weight (length ranks) root edges route _ _ _ (own_step (rank_in ranks) (own_op (own.Store gather.coords) gather.part)) words_by (message_words (has_places gather.fold) (element_count gather.part)) (λ p. ap sent_words (own_kind own.Load gather.part p))
    (λ e. ap sent_words (sent_kind (relay.Join (element_count gather.part) gather.fold) (rank_in ranks e.1)) ∙ relay_long gather.fold (element_count gather.part)) (λ e. ap sent_words (received_kind (relay.Join (element_count gather.part) gather.fold) (rank_in ranks e.0)))
    (λ p. ap sent_words (own_kind (own.Store gather.coords) gather.part p))
gathered_words ranks root edges gather None route =
    combine_for_all_weight (length ranks) root edges route _ _ _ _ _ _ words_by (message_words (has_places gather.fold) (element_count gather.part)) (λ p. ap sent_words (own_kind own.Load gather.part p))
    (λ e. ap sent_words (sent_kind (relay.Join (element_count gather.part) gather.fold) (rank_in ranks e.1)) ∙ relay_long gather.fold (element_count gather.part)) (λ e. ap sent_words (received_kind (relay.Join (element_count gather.part) gather.fold) (rank_in ranks e.0)))
    (λ e. ap sent_words (sent_kind (relay.Spread (element_count gather.part) gather.fold) (rank_in ranks e.1)) ∙ spread_long gather.fold (element_count gather.part)) (λ e. ap sent_words (received_kind (relay.Spread (element_count gather.part) gather.fold) (rank_in ranks e.0)))
    (λ p. ap sent_words (own_kind (own.Store gather.coords) gather.part p))

combine_grows : (g : Grid) (v : ShapesView) (p q : PlanView RankOp) (top : Top) (scope : Scope) (place : ℕ × ℕ) (dest : Option (ℕ × ℕ)) (gather : Gather) (ranks : List ℕ) (k : ℕ) → IsListed g v scope place ranks k → IsGathered p q top ranks k gather dest
    → Grows p q (refusals.combine_count (length (members g scope)) dest) (combine_messages (length (members g scope)) dest) (combine_messages (length (members g scope)) dest * message_words (has_places gather.fold) (element_count gather.part))
combine_grows g v p q top scope place dest gather ranks k is gathered =
    let edges : List (ℕ × ℕ) = edges_of top (length ranks) k in
    let ops : List (ℕ × RankOp) = gathered_ops ranks k (edges_of top (length ranks) k) gather dest in
    let some : 0 < length ranks = let l = is.within in omega arith in
    let same : length ranks ≡ length (members g scope) = ap length is.ranks_are in
    record {
      ops_are = ap length gathered.steps_are ∙ length-append p.steps ops ∙ ap (λ m. length p.steps + m) (gathered_long ranks k edges gather dest some gathered.route ∙ ap (λ n. refusals.combine_count n dest) same);
      messages_are = ap (message_count rank_steps) gathered.steps_are ∙ messages_join rank_steps p.steps ops ∙ ap (λ m. message_count rank_steps p.steps + m) (gathered_messages ranks k edges gather dest gathered.route ∙ ap (λ n. combine_messages n dest) same);
      words_are = ap (word_count rank_steps) gathered.steps_are ∙ words_join rank_steps p.steps ops ∙ ap (λ m. word_count rank_steps p.steps + m) (gathered_words ranks k edges gather dest gathered.route ∙ ap (λ n. combine_messages n dest * message_words (has_places gather.fold) (element_count gather.part)) same);
    }

-- all that a combine promises
pub combine_made : (g : Grid) (v : ShapesView) (p q : PlanView RankOp) (top : Top) (scope : Scope) (dest : Option (ℕ × ℕ)) (fold : FoldKind) (part : Part) (rc : Option (ℕ × ℕ)) (ranks : List ℕ) (k : ℕ)
    → IsListed g v scope (root_place scope dest) ranks k → AllFitPart v ranks part → RcFit v ranks part rc → AreAskable fold rc → IsQuiet p (members g scope) → IsGathered p q top ranks k (gather_of g scope fold part rc) dest → q.ranks ≡ p.ranks
    → IsCombineMade v p q g scope fold part rc dest
combine_made g v p q top scope dest fold part rc ranks k is fits rc_fits ask quiet gathered same = record {
  appends = combine_appends g v p q top scope dest fold part rc ranks k is fits rc_fits ask quiet gathered same;
  grows = combine_grows g v p q top scope (root_place scope dest) dest (gather_of g scope fold part rc) ranks k is gathered;
  scratch = grown_within v p.steps (gathered_ops ranks k (edges_of top (length ranks) k) (gather_of g scope fold part rc) dest) q.steps gathered.steps_are
      (gathered_within v ranks k (edges_of top (length ranks) k) (gather_of g scope fold part rc) dest gathered.route is.within fits);
}

-- ---- a barrier

barrier_appends : (g : Grid) (v : ShapesView) (p q : PlanView RankOp) (scope : Scope) (place : ℕ × ℕ) (ranks : List ℕ) (k : ℕ) → IsListed g v scope place ranks k → IsQuiet p (members g scope) → IsPulsed p q ranks → q.ranks ≡ p.ranks → Appends v p q (λ s. s)
barrier_appends g v p q scope place ranks k is quiet pulsed same = record {
  added = barrier_ops ranks (edges_of H (length ranks) 0);
  ranks_are = same;
  steps_are = pulsed.steps_are;
  means = barrier_means v p ranks 0 (edges_of H (length ranks) 0) is.members_are pulsed.route (subst (λ (rs : List ℕ). IsQuiet p rs) (sym is.ranks_are) quiet);
}

barrier_grows : (g : Grid) (v : ShapesView) (p q : PlanView RankOp) (scope : Scope) (place : ℕ × ℕ) (ranks : List ℕ) (k : ℕ) → IsListed g v scope place ranks k → IsPulsed p q ranks
    → Grows p q (4 * (length (members g scope) - 1)) (2 * (length (members g scope) - 1)) 0
barrier_grows g v p q scope place ranks k is pulsed =
    let edges : List (ℕ × ℕ) = edges_of H (length ranks) 0 in
    let ops : List (ℕ × RankOp) = barrier_ops ranks (edges_of H (length ranks) 0) in
    let same : length ranks ≡ length (members g scope) = ap length is.ranks_are in
    let messages : message_count rank_steps ops ≡ 2 * (length ranks - 1) * 1 = barrier_weight (length ranks) 0 edges pulsed.route _ _ messages_by 1 (λ e. refl) (λ e. refl) in
    let words : word_count rank_steps ops ≡ 2 * (length ranks - 1) * 0 = barrier_weight (length ranks) 0 edges pulsed.route _ _ words_by 0 (λ e. refl) (λ e. refl) in
    record {
      ops_are = ap length pulsed.steps_are ∙ length-append p.steps ops ∙ ap (λ m. length p.steps + m) (barrier_count (length ranks) 0 edges pulsed.route _ _ ∙ ap (λ n. 4 * (n - 1)) same);
      messages_are = ap (message_count rank_steps) pulsed.steps_are ∙ messages_join rank_steps p.steps ops ∙ ap (λ m. message_count rank_steps p.steps + m) (messages ∙ omega arith);
      words_are = ap (word_count rank_steps) pulsed.steps_are ∙ words_join rank_steps p.steps ops ∙ ap (λ m. word_count rank_steps p.steps + m) (words ∙ omega arith);
    }

-- all that a barrier promises
pub barrier_made : (g : Grid) (v : ShapesView) (p q : PlanView RankOp) (scope : Scope) (place : ℕ × ℕ) (ranks : List ℕ) (k : ℕ) → IsListed g v scope place ranks k → IsQuiet p (members g scope) → IsPulsed p q ranks → q.ranks ≡ p.ranks
    → IsMade v p q (λ s. s) (4 * (length (members g scope) - 1)) (2 * (length (members g scope) - 1)) 0
barrier_made g v p q scope place ranks k is quiet pulsed same = record {
  appends = barrier_appends g v p q scope place ranks k is quiet pulsed same;
  grows = barrier_grows g v p q scope place ranks k is pulsed;
  scratch = grown_within v p.steps (barrier_ops ranks (edges_of H (length ranks) 0)) q.steps pulsed.steps_are (pulses_within v ranks 0 (edges_of H (length ranks) 0) pulsed.route);
}

pub barrier_along : (g : Grid) (v : ShapesView) (p q : PlanView RankOp) (scope : Scope) (place : ℕ × ℕ) (ranks : List ℕ) (k : ℕ) → IsListed g v scope place ranks k → IsPulsed p q ranks
    → q.steps ≡ p.steps ++ barrier_ops (members g scope) (edges_of H (length (members g scope)) 0)
barrier_along g v p q scope place ranks k is pulsed = pulsed.steps_are ∙ ap (λ rs. p.steps ++ barrier_ops rs (edges_of H (length rs) 0)) is.ranks_are

-- ---- why a call is refused

-- the members are there: the arrays decide, and then the number of operations
pub combine_later : (g : Grid) (v : ShapesView) (p : PlanView RankOp) (scope : Scope) (dest : Option (ℕ × ℕ)) (part : Part) (rc : Option (ℕ × ℕ)) (ranks : List ℕ) (k : ℕ) → IsListed g v scope (root_place scope dest) ranks k
    → combine_fault (length p.steps) v g scope dest part rc ≡ option_or (arrays_fault v ranks part rc) (many_fault (length p.steps) (refusals.combine_count (length ranks) dest))
combine_later g v p scope dest part rc ranks k is =
    ap (λ (o : Option ℕ). cond (is_none o) (Some NotInGrid) (option_or (arrays_fault v (members g scope) part rc) (many_fault (length p.steps) (refusals.combine_count (length (members g scope)) dest)))) is.position
    ∙ ap (λ rs. option_or (arrays_fault v rs part rc) (many_fault (length p.steps) (refusals.combine_count (length rs) dest))) (sym is.ranks_are)

pub barrier_later : (g : Grid) (v : ShapesView) (p : PlanView RankOp) (scope : Scope) (ranks : List ℕ) (k : ℕ) → IsListed g v scope (root_place scope None) ranks k → barrier_fault (length p.steps) g scope ≡ many_fault (length p.steps) (4 * (length ranks - 1))
barrier_later g v p scope ranks k is =
    ap (λ (o : Option ℕ). cond (is_none o) (Some NotInGrid) (many_fault (length p.steps) (4 * (length (members g scope) - 1)))) is.position
    ∙ ap (λ rs. many_fault (length p.steps) (4 * (length rs - 1))) (sym is.ranks_are)

no_memory : (e : ScopeErr) (o : Option ScopeErr) → e ≡ NoMemory → IsAnswer (Err e) o
no_memory e None h = h
no_memory e (Some f) h = inr (ap (λ x. Err x) h)

-- the members aren't there
pub none_listed : (g : Grid) (scope : Scope) (place : ℕ × ℕ) (later : Option ScopeErr) (e : ScopeErr) → (e ≡ NoMemory) ⊎ ((e ≡ NotInGrid) × (position_in g scope place ≡ None)) → IsAnswer (Err e) (cond (is_none (position_in g scope place)) (Some NotInGrid) later)
none_listed g scope place later e (inl h) = no_memory e _ h
none_listed g scope place later e (inr h) = subst (λ (o : Option ℕ). IsAnswer (Err e) (cond (is_none o) (Some NotInGrid) later)) (sym h.1) (inl (ap (λ x. Err x) h.0))
