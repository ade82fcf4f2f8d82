-- What a broadcast call has, and what it promises.
use Rattle.std.specs.Prelude.{◌≡◌, ℕ, zero, suc, ◌+◌, ◌-◌, ◌*◌, ◌<◌, ◌⊎◌, Bool, true, false, cond, not, Option, Some, None, is_none, Result, Ok, Err, OnOk, List, [], ◌∷◌, ◌++◌, length, slice_index, slice_index_or}
use Rattle.std.specs.List.{AllByRecursion}
use Rattle.std.proofs.Common.{sym, ap, ◌∙◌, refl, subst, inl, inr, arith, length-append}
use Rattle.std.proofs.Math.Nat.{zero-mul}
use Rattle.std.proofs.lemmas.List.Sums.{sum_by-append}
use Rattle.std.proofs.lemmas.Bool.Decides.{eqb_tells}
use Rattle.std.proofs.lemmas.Nat.{mul-add-lt}
use Rattle.msg_core.specs.Plans.{PlanView, message_count, word_count, sent_messages, sent_words}
use Rattle.proc_grid.specs.Grid.{Grid, or_zero, rank_of}
use Rattle.proc_grid.specs.Scopes.{members, position_in}
use Rattle.proc_grid.specs.declared.scope.Scope.{Scope}
use Rattle.route_tree.specs.declared.top.Top.{Top}
use Rattle.route_tree.specs.Parents.{edges_of}
use Rattle.pack_words.specs.declared.shape.Shape.{Shape}
use Rattle.pack_words.specs.declared.rank_op.RankOp.{RankOp}
use Rattle.pack_words.specs.Packing.{selected_count}
use Rattle.pack_words.specs.RankOps.{rank_kind}
use Rattle.pack_words.specs.GridState.{rank_steps}
use Rattle.pack_words.specs.GridShapes.{ShapesView, IsShapes, IsSize, shape_of}
use Rattle.pack_words.specs.GridPlans.{Appends, Grows}
use Rattle.pack_words.proofs.PartLaws.{part_is_region, part_long}
use Rattle.scope_ops.specs.declared.part.Part.{Part}
use Rattle.scope_ops.specs.declared.part.Spot.{Spot}
use Rattle.scope_ops.specs.declared.scope_err.ScopeErr.{ScopeErr}
use Rattle.scope_ops.specs.declared.scope_err.ScopeErr.TheVariants.{NotInGrid, OutOfArray, NoMemory}
use Rattle.scope_ops.specs.Parts.{part_from, fits, cut_of}
use Rattle.scope_ops.specs.Lines.{broadcast_line}
use Rattle.scope_ops.specs.Refusals.{IsAnswer, many_fault, part_count}
use Rattle.scope_ops.specs.Ops.{regions_of, Fits}
use Rattle.scope_ops.specs.Broadcasts.{part_sent, edge_ops, AllFit, IsQuiet, IsRouted}
use Rattle.scope_ops.specs.Scopes.{IsListed, all_below, member_fits, broadcast_fault}
use Rattle.scope_ops.specs.Calls.{IsBroadcastMade, IsBroadcastAlong}
use Rattle.scope_ops.proofs.Below.{below_all}
use Rattle.scope_ops.proofs.Along.{broadcast_means}
use Rattle.scope_ops.proofs.Quiet.{ops_long}
use Rattle.scope_ops.proofs.Within.{grown_within, edges_within}

all_at : (ss : List (ℕ × ℕ)) (k : ℕ) → AllByRecursion IsSize ss → k < length ss → IsSize (slice_index_or ss k (1, 0))
all_at [] k all lt = absurd (omega arith)
all_at (s ∷ ss) zero all lt = all.0
all_at (s ∷ ss) (suc k) all lt = all_at ss k all.1 (omega arith)

-- each shape is within the limits
pub is_size : (v : ShapesView) (r a : ℕ) → IsShapes v → r < v.ranks → a < v.count → IsSize (shape_of v r a)
is_size v r a is lr la =
    let low : a * v.ranks + r < v.ranks * v.count = mul-add-lt a v.ranks r v.count la lr in
    let l = is.counted in
    all_at v.sizes (a * v.ranks + r) is.each (omega arith)

pub all_fit : (g : Grid) (v : ShapesView) (scope : Scope) (src : ℕ × ℕ) (ranks : List ℕ) (k : ℕ) (part : Part) (rcv : Spot) → IsListed g v scope src ranks k → part.array < v.count → rcv.array < v.count → all_below (member_fits v ranks k part rcv) (length ranks) ≡ true → AllFit v ranks k part rcv
all_fit g v scope src ranks k part rcv is la lr h = record {
  array = la;
  rcv_array = lr;
  source_fits = record {
    size_is = is_size v (slice_index ranks k) part.array is.shapes_are (is.members_are.within k is.within) la;
    fits_is = elim (eqb_tells k k) [
      | inl e ↦ subst (λ (b : Bool). fits (shape_of v (slice_index ranks k) (cond b part (part_from rcv part)).array) (cond b part (part_from rcv part)) ≡ true) e.0 (below_all (member_fits v ranks k part rcv) (length ranks) k is.within h)
      | inr e ↦ absurd (e.1 refl)
    ];
  };
  others_fit = λ j lj ne. record {
    size_is = is_size v (slice_index ranks j) rcv.array is.shapes_are (is.members_are.within j lj) lr;
    fits_is = elim (eqb_tells j k) [
      | inl e ↦ absurd (ne e.1)
      | inr e ↦ subst (λ (b : Bool). fits (shape_of v (slice_index ranks j) (cond b part (part_from rcv part)).array) (cond b part (part_from rcv part)) ≡ true) e.0 (below_all (member_fits v ranks k part rcv) (length ranks) j lj h)
    ];
  };
}

-- some member other than the source is there
pub other_fits : (v : ShapesView) (ranks : List ℕ) (k : ℕ) (part : Part) (rcv : Spot) → AllFit v ranks k part rcv → 1 < length ranks → k < length ranks → (j : ℕ) × Fits (shape_of v (slice_index ranks j) rcv.array) (part_from rcv part)
other_fits v ranks zero part rcv fit two there = (1, fit.others_fit 1 two (λ e. cc))
other_fits v ranks (suc k) part rcv fit two there = (0, fit.others_fit 0 (omega arith) (λ e. cc))

broadcast_appends : (g : Grid) (v : ShapesView) (p q : PlanView RankOp) (top : Top) (scope : Scope) (src : ℕ × ℕ) (ranks : List ℕ) (k : ℕ) (shape : Shape) (part : Part) (rcv : Spot) → IsListed g v scope src ranks k → AllFit v ranks k part rcv → IsQuiet p (members g scope) → IsRouted p q top ranks k shape part rcv → q.ranks ≡ p.ranks
    → Appends v p q (broadcast_line (members g scope) (rank_of g src) shape part (part_from rcv part))
broadcast_appends g v p q top scope src ranks k shape part rcv is fit quiet routed same =
    let calm : IsQuiet p ranks = subst (λ (rs : List ℕ). IsQuiet p rs) (sym is.ranks_are) quiet in
    let rank : slice_index ranks k ≡ rank_of g src = ap (λ rs. slice_index rs k) is.ranks_are ∙ sym (ap or_zero is.place_is.rank_is) in
    let made : Appends v p q (broadcast_line ranks (slice_index ranks k) shape part (part_from rcv part)) = record {
      added = edge_ops ranks k shape part rcv (edges_of top (length ranks) k);
      ranks_are = same;
      steps_are = routed.steps_are;
      means = broadcast_means v p ranks (edges_of top (length ranks) k) k shape part rcv is.members_are fit routed.route is.within calm;
    } in
    subst (λ (r : ℕ). Appends v p q (broadcast_line (members g scope) r shape part (part_from rcv part))) rank (subst (λ (rs : List ℕ). Appends v p q (broadcast_line rs (slice_index ranks k) shape part (part_from rcv part))) is.ranks_are made)

-- how much a route adds
part_length : Shape → Part → ℕ
part_length shape part = selected_count (cut_of shape part) (regions_of shape part)

sent_count : (source : ℕ) (shape : Shape) (part : Part) (rcv : Spot) (k : ℕ) → selected_count (cut_of shape (part_sent source part rcv k)) (regions_of shape (part_sent source part rcv k)) ≡ part_count shape part
sent_count source shape part rcv k = elim (eqb_tells k source) [
  | inl e ↦ subst (λ (b : Bool). selected_count (cut_of shape (cond b part (part_from rcv part))) (regions_of shape (cond b part (part_from rcv part))) ≡ part_count shape part) (sym e.0) (ap length (part_is_region (cut_of shape part) part.i part.j))
  | inr e ↦ subst (λ (b : Bool). selected_count (cut_of shape (cond b part (part_from rcv part))) (regions_of shape (cond b part (part_from rcv part))) ≡ part_count shape part) (sym e.0)
      (ap length (part_is_region (cut_of shape part) rcv.i rcv.j) ∙ part_long (cut_of shape part) rcv.i rcv.j part.i part.j)
]

messages_of : (members : List ℕ) (source : ℕ) (shape : Shape) (part : Part) (rcv : Spot) (es : List (ℕ × ℕ)) → message_count rank_steps (edge_ops members source shape part rcv es) ≡ length es
messages_of members source shape part rcv [] = refl
messages_of members source shape part rcv (e ∷ es) =
    let h = messages_of members source shape part rcv es in
    let step : message_count rank_steps (edge_ops members source shape part rcv (e ∷ es)) ≡ 1 + message_count rank_steps (edge_ops members source shape part rcv es) =
    sum_by-append (λ (x : ℕ × RankOp). sent_messages (rank_kind x.1)) (edge_ops members source shape part rcv (e ∷ [])) (edge_ops members source shape part rcv es) in
    omega (arith, h, step)

words_in : (members : List ℕ) (source : ℕ) (shape : Shape) (part : Part) (rcv : Spot) (es : List (ℕ × ℕ)) → word_count rank_steps (edge_ops members source shape part rcv es) ≡ length es * part_count shape part
words_in members source shape part rcv [] = sym (zero-mul (part_count shape part))
words_in members source shape part rcv (e ∷ es) =
    let h = words_in members source shape part rcv es in
    let c = sent_count source shape part rcv e.0 in
    let step : word_count rank_steps (edge_ops members source shape part rcv (e ∷ es)) ≡ 0 + selected_count (cut_of shape (part_sent source part rcv e.0)) (regions_of shape (part_sent source part rcv e.0)) + 0 + word_count rank_steps (edge_ops members source shape part rcv es) =
    sum_by-append (λ (x : ℕ × RankOp). sent_words (rank_kind x.1)) (edge_ops members source shape part rcv (e ∷ [])) (edge_ops members source shape part rcv es) in
    step ∙ next (part_count shape part) _ (length es) _ c h
  where
    next : (c d n w : ℕ) → d ≡ c → w ≡ n * c → 0 + d + 0 + w ≡ suc n * c
    next c d n w e h = let x : suc n * c ≡ n * c + c = grind arith in omega arith

broadcast_grows : (g : Grid) (v : ShapesView) (p q : PlanView RankOp) (top : Top) (scope : Scope) (src : ℕ × ℕ) (ranks : List ℕ) (k : ℕ) (shape : Shape) (part : Part) (rcv : Spot) → IsListed g v scope src ranks k → IsRouted p q top ranks k shape part rcv
    → Grows p q (2 * (length (members g scope) - 1)) (length (members g scope) - 1) ((length (members g scope) - 1) * part_count shape part)
broadcast_grows g v p q top scope src ranks k shape part rcv is routed =
    let ops : List (ℕ × RankOp) = edge_ops ranks k shape part rcv (edges_of top (length ranks) k) in
    let n : length (edges_of top (length ranks) k) ≡ length (members g scope) - 1 = routed.route.count ∙ ap (λ rs. length rs - 1) is.ranks_are in
    record {
      ops_are = ap length routed.steps_are ∙ (length-append p.steps ops ∙ ap (λ m. length p.steps + m) (ops_long ranks k shape part rcv (edges_of top (length ranks) k) ∙ ap (λ m. 2 * m) n));
      messages_are = ap (message_count rank_steps) routed.steps_are ∙ (sum_by-append (λ (x : ℕ × RankOp). sent_messages (rank_kind x.1)) p.steps ops ∙ ap (λ m. message_count rank_steps p.steps + m) (messages_of ranks k shape part rcv (edges_of top (length ranks) k) ∙ n));
      words_are = ap (word_count rank_steps) routed.steps_are ∙ (sum_by-append (λ (x : ℕ × RankOp). sent_words (rank_kind x.1)) p.steps ops ∙ ap (λ m. word_count rank_steps p.steps + m) (words_in ranks k shape part rcv (edges_of top (length ranks) k) ∙ ap (λ m. m * part_count shape part) n));
    }

-- all that a broadcast promises
pub broadcast_made : (g : Grid) (v : ShapesView) (p q : PlanView RankOp) (top : Top) (scope : Scope) (src : ℕ × ℕ) (ranks : List ℕ) (k : ℕ) (shape : Shape) (part : Part) (rcv : Spot) → IsListed g v scope src ranks k → AllFit v ranks k part rcv → IsQuiet p (members g scope) → IsRouted p q top ranks k shape part rcv → q.ranks ≡ p.ranks
    → IsBroadcastMade v p q g scope shape part src rcv
broadcast_made g v p q top scope src ranks k shape part rcv is fit quiet routed same = record {
  appends = broadcast_appends g v p q top scope src ranks k shape part rcv is fit quiet routed same;
  grows = broadcast_grows g v p q top scope src ranks k shape part rcv is routed;
  scratch = grown_within v p.steps (edge_ops ranks k shape part rcv (edges_of top (length ranks) k)) q.steps routed.steps_are (edges_within v ranks k shape part rcv (edges_of top (length ranks) k));
}

-- why the call is refused
listed_fault : (g : Grid) (v : ShapesView) (p : PlanView RankOp) (scope : Scope) (src : ℕ × ℕ) (ranks : List ℕ) (k : ℕ) (part : Part) (rcv : Spot) → IsListed g v scope src ranks k
    → broadcast_fault (length p.steps) v g scope part src rcv ≡ cond (not (all_below (member_fits v ranks k part rcv) (length ranks))) (Some OutOfArray) (many_fault (length p.steps) (2 * (length ranks - 1)))
listed_fault g v p scope src ranks k part rcv is =
    ap (λ (o : Option ℕ). cond (is_none o) (Some NotInGrid) (cond (not (all_below (member_fits v (members g scope) (or_zero o) part rcv) (length (members g scope)))) (Some OutOfArray) (many_fault (length p.steps) (2 * (length (members g scope) - 1))))) is.position
    ∙ ap (λ rs. cond (not (all_below (member_fits v rs k part rcv) (length rs))) (Some OutOfArray) (many_fault (length p.steps) (2 * (length rs - 1)))) (sym is.ranks_are)

pub fault_in_array : (g : Grid) (v : ShapesView) (p : PlanView RankOp) (scope : Scope) (src : ℕ × ℕ) (ranks : List ℕ) (k : ℕ) (part : Part) (rcv : Spot) → IsListed g v scope src ranks k → all_below (member_fits v ranks k part rcv) (length ranks) ≡ false → broadcast_fault (length p.steps) v g scope part src rcv ≡ Some OutOfArray
fault_in_array g v p scope src ranks k part rcv is h = listed_fault g v p scope src ranks k part rcv is ∙ ap (λ b. cond (not b) (Some OutOfArray) (many_fault (length p.steps) (2 * (length ranks - 1)))) h

pub fault_later : (g : Grid) (v : ShapesView) (p : PlanView RankOp) (scope : Scope) (src : ℕ × ℕ) (ranks : List ℕ) (k : ℕ) (part : Part) (rcv : Spot) → IsListed g v scope src ranks k → all_below (member_fits v ranks k part rcv) (length ranks) ≡ true → broadcast_fault (length p.steps) v g scope part src rcv ≡ many_fault (length p.steps) (2 * (length ranks - 1))
fault_later g v p scope src ranks k part rcv is h = listed_fault g v p scope src ranks k part rcv is ∙ ap (λ b. cond (not b) (Some OutOfArray) (many_fault (length p.steps) (2 * (length ranks - 1)))) h

pub not_listed : (g : Grid) (v : ShapesView) (p : PlanView RankOp) (scope : Scope) (src : ℕ × ℕ) (part : Part) (rcv : Spot) (e : ScopeErr) → (e ≡ NoMemory) ⊎ ((e ≡ NotInGrid) × (position_in g scope src ≡ None)) → IsAnswer (Err e) (broadcast_fault (length p.steps) v g scope part src rcv)
not_listed g v p scope src part rcv e (inl h) = no_memory (broadcast_fault (length p.steps) v g scope part src rcv) where
  no_memory : (o : Option ScopeErr) → IsAnswer (Err e) o
  no_memory None = h
  no_memory (Some f) = inr (ap (λ x. Err x) h)
not_listed g v p scope src part rcv e (inr h) =
    subst (λ (o : Option ℕ). IsAnswer (Err e) (cond (is_none o) (Some NotInGrid) (cond (not (all_below (member_fits v (members g scope) (or_zero o) part rcv) (length (members g scope)))) (Some OutOfArray) (many_fault (length p.steps) (2 * (length (members g scope) - 1)))))) (sym h.1)
    (inl (ap (λ x. Err x) h.0))

pub on_ok : {T E A B : Type 0} (r : Result T E) → (A → B) → OnOk r A → OnOk r B
on_ok (Ok x) f h = f h
on_ok (Err e) f h = tt

-- the appended operations themselves
pub routed_along : (g : Grid) (v : ShapesView) (p q : PlanView RankOp) (top : Top) (scope : Scope) (src : ℕ × ℕ) (ranks : List ℕ) (k : ℕ) (shape : Shape) (part : Part) (rcv : Spot) → IsListed g v scope src ranks k → IsRouted p q top ranks k shape part rcv
    → IsBroadcastAlong p q g scope top shape part src rcv
routed_along g v p q top scope src ranks k shape part rcv is routed =
    routed.steps_are
    ∙ (ap (λ rs. p.steps ++ edge_ops rs k shape part rcv (edges_of top (length rs) k)) is.ranks_are
    ∙ ap (λ (o : Option ℕ). p.steps ++ edge_ops (members g scope) (or_zero o) shape part rcv (edges_of top (length (members g scope)) (or_zero o))) (sym is.position))
