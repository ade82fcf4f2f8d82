-- What a call's operations use of an accumulator, beside the words of the arrays.
use Rattle.std.specs.Prelude.{◌≡◌, ℕ, zero, suc, ◌+◌, ◌*◌, ◌<◌, ◌≤◌, cond, nat_eq, Option, Some, None, List, [], ◌∷◌, ◌++◌, length, slice_index}
use Rattle.std.specs.List.{AllByRecursion, sum_by, range_with_len}
use Rattle.std.proofs.Common.{sym, ap, refl, subst, inl, inr, arith}
use Rattle.std.proofs.Math.Nat.{mul-le-mul}
use Rattle.std.proofs.lemmas.List.Sums.{sum_by-cons}
use Rattle.std.proofs.lemmas.Bool.Decides.{eqb_tells}
use Rattle.route_tree.specs.Routes.{IsRoute}
use Rattle.route_laws.specs.Passing.{turned}
use Rattle.route_laws.proofs.Edges.{EachEdge, IsWithinScope, all_within}
use Rattle.route_laws.proofs.AlongLaws.{turned_within}
use Rattle.route_plans.specs.Members.{rank_in}
use Rattle.route_plans.specs.PlanSteps.{own_step, plan_each, plan_passing}
use Rattle.pack_words.specs.declared.shape.Shape.{Shape}
use Rattle.pack_words.specs.declared.shape.Shape.TheVariants.{Ge}
use Rattle.pack_words.specs.declared.rank_op.RankOp.{RankOp}
use Rattle.pack_words.specs.RankOps.{elements_used}
use Rattle.pack_words.specs.GridState.{scratch_needed}
use Rattle.pack_words.specs.GridShapes.{ShapesView, shape_of}
use Rattle.pack_words.proofs.Assigning.{all_of_join, all_of_map, all_of_run}
use Rattle.scope_ops.specs.declared.part.Part.{Part}
use Rattle.scope_ops.specs.declared.part.Spot.{Spot}
use Rattle.scope_ops.specs.declared.own.Own.{Own}
use Rattle.scope_ops.specs.declared.own.Own.TheVariants as own
use Rattle.scope_ops.specs.declared.relay.Relay.{Relay}
use Rattle.scope_ops.specs.declared.relay.Relay.TheVariants as relay
use Rattle.scope_ops.specs.declared.gather.Gather.{Gather}
use Rattle.scope_ops.specs.Ops.{Fits}
use Rattle.scope_ops.specs.Broadcasts.{edge_ops}
use Rattle.scope_ops.specs.CombineOps.{element_count, own_op, relay_send, relay_receive, sent_by, received_by, gathered_ops, barrier_ops, AllFitPart}
use Rattle.scope_ops.specs.Scratch.{array_words, AreWithinArrays, all_scratch, all_array_words}
use Rattle.scope_ops.proofs.Fitting.{is_part}

-- ---- sums

one_of_sum : (f : ℕ → ℕ) (a n k : ℕ) → a ≤ k → k < a + n → f k ≤ sum_by f (range_with_len a n)
one_of_sum f a zero k low high = absurd (omega arith)
one_of_sum f a (suc n) k low high =
    let parts : sum_by f (range_with_len a (suc n)) ≡ f a + sum_by f (range_with_len (a + 1) n) = sum_by-cons f a (range_with_len (a + 1) n) in
    elim (eqb_tells k a) [
      | inl e ↦ let same : f k ≡ f a = ap f e.1 in omega arith
      | inr e ↦ let ne = e.1 in let h = one_of_sum f (a + 1) n k (omega arith) (omega arith) in omega arith
    ]

sums_below : (f g : ℕ → ℕ) (a n : ℕ) → ((k : ℕ) → f k ≤ g k) → sum_by f (range_with_len a n) ≤ sum_by g (range_with_len a n)
sums_below f g a zero h = omega arith
sums_below f g a (suc n) h =
    let left : sum_by f (range_with_len a (suc n)) ≡ f a + sum_by f (range_with_len (a + 1) n) = sum_by-cons f a (range_with_len (a + 1) n) in
    let right : sum_by g (range_with_len a (suc n)) ≡ g a + sum_by g (range_with_len (a + 1) n) = sum_by-cons g a (range_with_len (a + 1) n) in
    let first = h a in
    let rest = sums_below f g (a + 1) n h in
    omega arith

-- ---- the accumulators of a plan

-- no operation uses more elements than its rank's arrays have words
abbrev FitArrays : ShapesView → List (ℕ × RankOp) → Type 0
FitArrays v xs = AllByRecursion (λ x. elements_used x.1 ≤ array_words v x.0) xs

needed_within : (v : ShapesView) (r : ℕ) (xs : List (ℕ × RankOp)) → FitArrays v xs → scratch_needed r xs ≤ array_words v r
needed_within v r [] all = omega arith
needed_within v r (x ∷ xs) all =
    let h = needed_within v r xs all.1 in
    let first : cond (nat_eq x.0 r) (elements_used x.1) 0 ≤ array_words v r = elim (eqb_tells x.0 r) [
      | inl e ↦ subst (λ b. cond b (elements_used x.1) 0 ≤ array_words v r) (sym e.0) (subst (λ q. elements_used x.1 ≤ array_words v q) e.1 all.0)
      | inr e ↦ subst (λ b. cond b (elements_used x.1) 0 ≤ array_words v r) (sym e.0) (omega arith)
    ] in
    omega (arith, h, first)

needed_join : (r most : ℕ) (xs ys : List (ℕ × RankOp)) → scratch_needed r xs ≤ most → scratch_needed r ys ≤ most → scratch_needed r (xs ++ ys) ≤ most
needed_join r most [] ys a b = b
needed_join r most (x ∷ xs) ys a b =
    let front : cond (nat_eq x.0 r) (elements_used x.1) 0 ≤ most = omega (arith, a) in
    let back : scratch_needed r xs ≤ most = omega (arith, a) in
    let h = needed_join r most xs ys back b in
    omega (arith, front, h)

pub grown_within : (v : ShapesView) (before added after : List (ℕ × RankOp)) → after ≡ before ++ added → FitArrays v added → AreWithinArrays v before → AreWithinArrays v after
grown_within v before added after is new old = λ r. subst (λ xs. scratch_needed r xs ≤ array_words v r) (sym is) (needed_join r (array_words v r) before added (old r) (needed_within v r added new))

pub together_within : (v : ShapesView) (ranks : ℕ) (xs : List (ℕ × RankOp)) → AreWithinArrays v xs → all_scratch ranks xs ≤ all_array_words ranks v
together_within v ranks xs all = sums_below (λ r. scratch_needed r xs) (array_words v) 0 ranks all

-- ---- the operations of the calls

none : (n : ℕ) → 0 ≤ n
none n = omega arith

pub unused_within : (v : ShapesView) (r : ℕ) (o : RankOp) → elements_used o ≡ 0 → FitArrays v ((r, o) ∷ [])
unused_within v r o is = (subst (λ n. n ≤ array_words v r) (sym is) (none (array_words v r)), tt)

pub edges_within : (v : ShapesView) (members : List ℕ) (source : ℕ) (shape : Shape) (part : Part) (rcv : Spot) (es : List (ℕ × ℕ)) → FitArrays v (edge_ops members source shape part rcv es)
edges_within v members source shape part rcv [] = tt
edges_within v members source shape part rcv (e ∷ es) = (none (array_words v (slice_index members e.0)), (none (array_words v (slice_index members e.1)), edges_within v members source shape part rcv es))

-- a part that fits an array has no more elements than the arrays have words
part_within : (v : ShapesView) (r : ℕ) (part : Part) → part.array < v.count → Fits (shape_of v r part.array) part → element_count part ≤ array_words v r
part_within v r part la fits =
    let is = is_part (shape_of v r part.array) Ge part fits in
    let rows : part.m ≤ (shape_of v r part.array).0 = let h = is.rows in omega arith in
    let columns : part.n ≤ (shape_of v r part.array).1 = let h = is.columns in omega arith in
    let area : part.m * part.n ≤ (shape_of v r part.array).0 * (shape_of v r part.array).1 = mul-le-mul rows columns in
    let one : (shape_of v r part.array).0 * (shape_of v r part.array).1 ≤ array_words v r = one_of_sum (λ a. (shape_of v r a).0 * (shape_of v r a).1) 0 v.count part.array (omega arith) (omega arith) in
    omega (arith, area, one)

abbrev relay_elements : Relay → ℕ
relay_elements (relay.Join len fold) = len
relay_elements (relay.Spread len fold) = len
relay_elements relay.Pulse = 0

sent_uses : (r : Relay) (to : ℕ) → elements_used (sent_by r to) ≡ relay_elements r
sent_uses (relay.Join len fold) to = refl
sent_uses (relay.Spread len fold) to = refl
sent_uses relay.Pulse to = refl

received_uses : (r : Relay) (from : ℕ) → elements_used (received_by r from) ≡ relay_elements r
received_uses (relay.Join len fold) from = refl
received_uses (relay.Spread len fold) from = refl
received_uses relay.Pulse from = refl

own_uses : (o : Own) (part : Part) (p : ℕ) → elements_used (own_op o part p) ≡ element_count part
own_uses own.Load part p = refl
own_uses (own.Store coords) part p = refl

own_within : (v : ShapesView) (ranks : List ℕ) (o : Own) (part : Part) (k : ℕ) → element_count part ≤ array_words v (rank_in ranks k) → elements_used (own_op o part k) ≤ array_words v (rank_in ranks k)
own_within v ranks o part k h = subst (λ n. n ≤ array_words v (rank_in ranks k)) (sym (own_uses o part k)) h

-- of each member's arrays
abbrev AreRoomy : ShapesView → List ℕ → ℕ → Type 0
AreRoomy v ranks len = (k : ℕ) → k < length ranks → len ≤ array_words v (rank_in ranks k)

each_within : (v : ShapesView) (ranks : List ℕ) (o : Own) (part : Part) → AreRoomy v ranks (element_count part) → FitArrays v (plan_each (rank_in ranks) (own_op o part) (length ranks))
each_within v ranks o part roomy =
    all_of_map (λ (x : ℕ × RankOp). elements_used x.1 ≤ array_words v x.0) (own_step (rank_in ranks) (own_op o part)) (range_with_len 0 (length ranks))
    (all_of_run (λ k. elements_used (own_op o part k) ≤ array_words v (rank_in ranks k)) 0 (length ranks) (λ k low high. own_within v ranks o part k (roomy k (omega arith))))

passing_within : (v : ShapesView) (ranks : List ℕ) (r : Relay) (es : List (ℕ × ℕ)) → AreRoomy v ranks (relay_elements r) → EachEdge (IsWithinScope (length ranks)) es → FitArrays v (plan_passing (rank_in ranks) (relay_send r (rank_in ranks)) (relay_receive r (rank_in ranks)) es)
passing_within v ranks r [] roomy all = tt
passing_within v ranks r (e ∷ es) roomy all = (
  subst (λ n. n ≤ array_words v (rank_in ranks e.0)) (sym (sent_uses r (rank_in ranks e.1))) (roomy e.0 all.0.0),
  (
    subst (λ n. n ≤ array_words v (rank_in ranks e.1)) (sym (received_uses r (rank_in ranks e.0))) (roomy e.1 all.0.1),
    passing_within v ranks r es roomy all.1,
  ),
)

joined : (v : ShapesView) (xs ys : List (ℕ × RankOp)) → FitArrays v xs → FitArrays v ys → FitArrays v (xs ++ ys)
joined v xs ys a b = all_of_join (λ x. elements_used x.1 ≤ array_words v x.0) xs ys a b

pub gathered_within : (v : ShapesView) (ranks : List ℕ) (root : ℕ) (edges : List (ℕ × ℕ)) (gather : Gather) (dest : Option (ℕ × ℕ)) → IsRoute (length ranks) root edges → root < length ranks → AllFitPart v ranks gather.part → FitArrays v (gathered_ops ranks root edges gather dest)
gathered_within v ranks root edges gather (Some place) route within fits =
    let roomy : AreRoomy v ranks (element_count gather.part) = λ k lt. part_within v (rank_in ranks k) gather.part fits.array (fits.each k lt) in
    let both = all_within (length ranks) root edges route in
    joined v _ ((rank_in ranks root, own_op (own.Store gather.coords) gather.part root) ∷ [])
    (joined v _ _ (each_within v ranks own.Load gather.part roomy) (passing_within v ranks (relay.Join (element_count gather.part) gather.fold) (turned edges) roomy (turned_within (length ranks) edges both)))
    (own_within v ranks (own.Store gather.coords) gather.part root (roomy root within), tt)
gathered_within v ranks root edges gather None route within fits =
    let roomy : AreRoomy v ranks (element_count gather.part) = λ k lt. part_within v (rank_in ranks k) gather.part fits.array (fits.each k lt) in
    let both = all_within (length ranks) root edges route in
    joined v _ _
    (joined v _ _
    (joined v _ _ (each_within v ranks own.Load gather.part roomy) (passing_within v ranks (relay.Join (element_count gather.part) gather.fold) (turned edges) roomy (turned_within (length ranks) edges both)))
    (passing_within v ranks (relay.Spread (element_count gather.part) gather.fold) edges roomy both))
    (each_within v ranks (own.Store gather.coords) gather.part roomy)

pub pulses_within : (v : ShapesView) (ranks : List ℕ) (root : ℕ) (edges : List (ℕ × ℕ)) → IsRoute (length ranks) root edges → FitArrays v (barrier_ops ranks edges)
pulses_within v ranks root edges route =
    let both = all_within (length ranks) root edges route in
    let roomy : AreRoomy v ranks 0 = λ k lt. none (array_words v (rank_in ranks k)) in
    joined v _ _ (passing_within v ranks relay.Pulse (turned edges) roomy (turned_within (length ranks) edges both)) (passing_within v ranks relay.Pulse edges roomy both)
