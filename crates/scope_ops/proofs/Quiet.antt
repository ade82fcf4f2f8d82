-- Along the edges of a broadcast each message is taken at once.
use Rattle.std.specs.Prelude.{◌≡◌, ◌≢◌, ℕ, suc, ◌+◌, ◌*◌, ◌<◌, ◌≤◌, Bool, true, false, cond, nat_eq, nat_le, Some, None, Result, Err, MatchOption, IsOkUnless, List, [], ◌∷◌, ◌++◌, length, take, drop, slice_get, slice_index, slice_index_or}
use Rattle.std.proofs.Common.{sym, ap, ◌∙◌, refl, subst, inl, inr, arith, add-one, length-append}
use Rattle.std.proofs.lemmas.Option.{slice_get-get_or}
use Rattle.std.proofs.lemmas.Bool.Decides.{nat_tests}
use Rattle.msg_core.specs.Kinds.{Kind}
use Rattle.msg_core.specs.Kinds.{Send, Recv, Local}
use Rattle.msg_core.specs.Plans.{PlanView, Lens, no_lens, lens_by, lens_of, waiting_lens, first_fault, is_full}
use Rattle.msg_core.specs.declared.fault.PlanErr.{PlanErr}
use Rattle.msg_core.specs.declared.fault.PlanErr.TheVariants as plan_err
use Rattle.msg_core.proofs.GrowingPlans.{lens_join}
use Rattle.msg_core.proofs.Growing.{lens_end}
use Rattle.msg_core.proofs.Pairs.{at_cases, at_here, at_else}
use Rattle.msg_core.proofs.Lists.{get_take, take_at}
use Rattle.route_tree.specs.Routes.{IsEdge, IsRoute}
use Rattle.pack_words.specs.declared.shape.Shape.{Shape}
use Rattle.pack_words.specs.declared.rank_op.RankOp.{RankOp}
use Rattle.pack_words.specs.Packing.{selected_count}
use Rattle.pack_words.specs.RankOps.{rank_kind}
use Rattle.pack_words.specs.GridState.{rank_steps}
use Rattle.pack_words.specs.Parts.{part_spots}
use Rattle.pack_words.proofs.PartLaws.{part_is_region, part_long}
use Rattle.pack_words.proofs.Shown.{at_along}
use Rattle.scope_ops.specs.declared.part.Part.{Part}
use Rattle.scope_ops.specs.declared.part.Spot.{Spot}
use Rattle.scope_ops.specs.Parts.{part_from, cut_of}
use Rattle.scope_ops.specs.Ops.{regions_of, put_of, get_of}
use Rattle.scope_ops.specs.Broadcasts.{part_sent, edge_ops, IsQuiet}

-- lengths that agree at each pair go on to agree
lens_by_same : (K : Kind) (r : ℕ) (q p : Lens) → ((i j : ℕ) → q i j ≡ p i j) → (i j : ℕ) → lens_by K r q i j ≡ lens_by K r p i j
lens_by_same (Send to len) r q p h = at_along (λ i j l. l) q p r to (q r to ++ len ∷ []) (p r to ++ len ∷ []) h (ap (λ l. l ++ len ∷ []) (h r to))
lens_by_same (Recv from len) r q p h = at_along (λ i j l. l) q p from r (drop 1 (q from r)) (drop 1 (p from r)) h (ap (drop 1) (h from r))
lens_by_same Local r q p h = h

lens_same : (xs : List (ℕ × RankOp)) (q p : Lens) → ((i j : ℕ) → q i j ≡ p i j) → (i j : ℕ) → lens_of rank_steps xs q i j ≡ lens_of rank_steps xs p i j
lens_same [] q p h = h
lens_same (x ∷ xs) q p h = lens_same xs (lens_by (rank_kind x.1) x.0 q) (lens_by (rank_kind x.1) x.0 p) (lens_by_same (rank_kind x.1) x.0 q p h)

pub sent_first : (q : Lens) (a b len : ℕ) → q a b ≡ [] → lens_by (Send b len) a q a b ≡ len ∷ []
sent_first q a b len quiet = at_here q a b (q a b ++ len ∷ []) ∙ ap (λ l. l ++ len ∷ []) quiet

pair_lens : (q : Lens) (a b len more : ℕ) → q a b ≡ [] → (i j : ℕ) → lens_by (Recv a more) b (lens_by (Send b len) a q) i j ≡ q i j
pair_lens q a b len more quiet i j =
    let p : Lens = lens_by (Send b len) a q in
    elim (at_cases p a b (drop 1 (p a b)) i j) [
      | inl h ↦ h.0 ∙ at_else q a b (q a b ++ len ∷ []) i j h.1
      | inr h ↦ h.2 ∙ (ap (drop 1) (sent_first q a b len quiet) ∙ (sym quiet ∙ (ap (λ x. q x b) (sym h.0) ∙ ap (λ y. q i y) (sym h.1))))
    ]

-- no message of any edge waits
abbrev pub AreQuiet : Lens → List ℕ → List (ℕ × ℕ) → Type 0
AreQuiet q members [] = Unit {0}
AreQuiet q members (e ∷ es) = (q (slice_index members e.0) (slice_index members e.1) ≡ []) × AreQuiet q members es

abbrev part_length : Shape → Part → ℕ
part_length shape part = selected_count (cut_of shape part) (regions_of shape part)

edges_lens : (members : List ℕ) (source : ℕ) (shape : Shape) (part : Part) (rcv : Spot) (es : List (ℕ × ℕ)) (q : Lens) → AreQuiet q members es → (i j : ℕ) → lens_of rank_steps (edge_ops members source shape part rcv es) q i j ≡ q i j
edges_lens members source shape part rcv [] q quiet i j = refl
edges_lens members source shape part rcv (e ∷ es) q quiet i j =
    lens_same (edge_ops members source shape part rcv es) _ q (pair_lens q (slice_index members e.0) (slice_index members e.1) (part_length shape (part_sent source part rcv e.0)) (part_length shape (part_from rcv part)) quiet.0) i j
    ∙ edges_lens members source shape part rcv es q quiet.1 i j

all_quiet : (q : Lens) (members : List ℕ) (es : List (ℕ × ℕ)) → ((k : ℕ) (e : ℕ × ℕ) → slice_get es k ≡ Some e → q (slice_index members e.0) (slice_index members e.1) ≡ []) → AreQuiet q members es
all_quiet q members [] h = tt
all_quiet q members (e ∷ es) h = (h 0 e refl, all_quiet q members es (λ k x d. h (suc k) x d))

-- after the first edges the members are as quiet as before
pub still_quiet : (p q : PlanView RankOp) (members : List ℕ) (edges : List (ℕ × ℕ)) (n source : ℕ) (shape : Shape) (part : Part) (rcv : Spot) (i : ℕ) → n ≡ length members → IsRoute n source edges → ((i f t : ℕ) → IsEdge edges i f t → f ≢ t)
    → IsQuiet p members → q.steps ≡ p.steps ++ edge_ops members source shape part rcv (take i edges) → IsQuiet q members
still_quiet p q members edges n source shape part rcv i long route apart quiet more j k lj lk ne =
    let es : List (ℕ × ℕ) = take i edges in
    let before : Lens = waiting_lens rank_steps p in
    let all : AreQuiet before members es = all_quiet before members es (λ a e d. let at = get_take edges i a e d in let ends = route.ends a e.0 e.1 at.0 in
    quiet e.0 e.1 (let l = ends.0 in omega (arith, l, long)) (let l = ends.1 in omega (arith, l, long)) (apart a e.0 e.1 at.0)) in
    let lens : waiting_lens rank_steps q ≡ lens_of rank_steps (edge_ops members source shape part rcv es) before = ap (λ xs. lens_of rank_steps xs no_lens) more ∙ lens_join rank_steps p.steps (edge_ops members source shape part rcv es) no_lens in
    ap (λ (f : Lens). f (slice_index members j) (slice_index members k)) lens
    ∙ (edges_lens members source shape part rcv es before all (slice_index members j) (slice_index members k) ∙ quiet j k lj lk ne)

same_length : (shape : Shape) (a b : Part) → cut_of shape a ≡ cut_of shape b → part_length shape a ≡ part_length shape b
same_length shape a b e =
    ap length (part_is_region (cut_of shape a) a.i a.j)
    ∙ (ap (λ c. length (part_spots c a.i a.j)) e ∙ (part_long (cut_of shape b) a.i a.j b.i b.j ∙ sym (ap length (part_is_region (cut_of shape b) b.i b.j))))

-- the message that was just sent is taken, whatever the plan says of a receive
pub never_refused : (p q : PlanView RankOp) (from to : ℕ) (shape : Shape) (sent target : Part) (e : PlanErr) → cut_of shape sent ≡ cut_of shape target → waiting_lens rank_steps p from to ≡ [] → length p.steps + 2 ≤ 1048576 → q.steps ≡ p.steps ++ (from, put_of to shape sent) ∷ []
    → MatchOption (first_fault (slice_get (waiting_lens rank_steps q from to) 0) from to (part_length shape target) (is_full rank_steps q)) (IsOkUnless {T = Unit {0}} (Err e) plan_err.NoMemory) (λ f. ◌≡◌ {A = Result (Unit {0}) PlanErr} (Err e) (Err f))
    → (◌≡◌ {A = Result (Unit {0}) PlanErr} (Err e) (Err plan_err.NoMemory) → ⊥) → ⊥
never_refused p q from to shape sent target e size quiet few steps said other =
    let lens : waiting_lens rank_steps q ≡ lens_by (Send to (part_length shape sent)) from (waiting_lens rank_steps p) = ap (λ xs. lens_of rank_steps xs no_lens) steps ∙ lens_end rank_steps p.steps (from, put_of to shape sent) no_lens in
    let first : waiting_lens rank_steps q from to ≡ part_length shape target ∷ [] =
    ap (λ (f : Lens). f from to) lens ∙ (sent_first (waiting_lens rank_steps p) from to (part_length shape sent) quiet ∙ ap (λ n. n ∷ []) (same_length shape sent target size)) in
    let long = ap length steps ∙ length-append p.steps ((from, put_of to shape sent) ∷ []) in
    let room : is_full rank_steps q ≡ false = not_full (length q.steps) (omega arith) in
    let same : nat_eq (part_length shape target) (part_length shape target) ≡ true = itself (part_length shape target) in
    let said1 : MatchOption (first_fault (Some (part_length shape target)) from to (part_length shape target) false) (IsOkUnless {T = Unit {0}} (Err e) plan_err.NoMemory) (λ f. ◌≡◌ {A = Result (Unit {0}) PlanErr} (Err e) (Err f)) =
    subst (λ (b : Bool). MatchOption (first_fault (Some (part_length shape target)) from to (part_length shape target) b) (IsOkUnless {T = Unit {0}} (Err e) plan_err.NoMemory) (λ f. ◌≡◌ {A = Result (Unit {0}) PlanErr} (Err e) (Err f))) room
    (subst (λ (l : List ℕ). MatchOption (first_fault (slice_get l 0) from to (part_length shape target) (is_full rank_steps q)) (IsOkUnless {T = Unit {0}} (Err e) plan_err.NoMemory) (λ f. ◌≡◌ {A = Result (Unit {0}) PlanErr} (Err e) (Err f))) first said) in
    let said2 : e ≡ plan_err.NoMemory =
    subst (λ (b : Bool). MatchOption (cond b (cond false (Some plan_err.TooManyOps) None) (Some (plan_err.WrongLength (part_length shape target) (part_length shape target)))) (IsOkUnless {T = Unit {0}} (Err e) plan_err.NoMemory) (λ f. ◌≡◌ {A = Result (Unit {0}) PlanErr} (Err e) (Err f))) same said1 in
    other (ap (λ x. Err x) said2)
  where
    not_full : (n : ℕ) → n + 1 ≤ 1048576 → nat_le 1048576 n ≡ false
    not_full n h = grind (arith, nat_tests)

    itself : (n : ℕ) → nat_eq n n ≡ true
    itself n = grind (arith, nat_tests)

-- an edge goes between different members
pub edge_apart : (n source : ℕ) (edges : List (ℕ × ℕ)) → IsRoute n source edges → (i f t : ℕ) → IsEdge edges i f t → f ≢ t
edge_apart n source edges route i f t e same = elim (route.earlier i f t e) [
  | inl h ↦ route.not_source i f t e (sym same ∙ h)
  | inr h ↦
      let d : IsEdge edges h.0 h.1 t = subst (λ (y : ℕ). IsEdge edges h.0 h.1 y) same h.3 in
      let once = route.reached t (route.ends i f t e).1 (route.not_source i f t e) in
      let a = once.once i f e in
      let b = once.once h.0 h.1 d in
      let lt = h.2 in
      absurd (omega arith)
]

-- the operations of one edge more
ops_join : (members : List ℕ) (source : ℕ) (shape : Shape) (part : Part) (rcv : Spot) (es ds : List (ℕ × ℕ)) → edge_ops members source shape part rcv (es ++ ds) ≡ edge_ops members source shape part rcv es ++ edge_ops members source shape part rcv ds
ops_join members source shape part rcv [] ds = refl
ops_join members source shape part rcv (e ∷ es) ds =
    ap (λ l. (slice_index members e.0, put_of (slice_index members e.1) shape (part_sent source part rcv e.0)) ∷ (slice_index members e.1, get_of (slice_index members e.0) shape (part_from rcv part)) ∷ l) (ops_join members source shape part rcv es ds)

pub ops_long : (members : List ℕ) (source : ℕ) (shape : Shape) (part : Part) (rcv : Spot) (es : List (ℕ × ℕ)) → length (edge_ops members source shape part rcv es) ≡ 2 * length es
ops_long members source shape part rcv [] = refl
ops_long members source shape part rcv (e ∷ es) = let h = ops_long members source shape part rcv es in omega (arith, h)

join_assoc : {X : Type 0} (xs ys zs : List X) → (xs ++ ys) ++ zs ≡ xs ++ (ys ++ zs)
join_assoc [] ys zs = refl
join_assoc (x ∷ xs) ys zs = ap (λ l. x ∷ l) (join_assoc xs ys zs)

pub steps_more : (before now after : List (ℕ × RankOp)) (members : List ℕ) (source : ℕ) (shape : Shape) (part sent target : Part) (rcv : Spot) (edges : List (ℕ × ℕ)) (i : ℕ) → i < length edges → sent ≡ part_sent source part rcv (slice_index_or edges i (0, 0)).0 → target ≡ part_from rcv part
    → now ≡ before ++ edge_ops members source shape part rcv (take i edges)
    → after ≡ now ++ (slice_index members (slice_index_or edges i (0, 0)).0, put_of (slice_index members (slice_index_or edges i (0, 0)).1) shape sent) ∷ (slice_index members (slice_index_or edges i (0, 0)).1, get_of (slice_index members (slice_index_or edges i (0, 0)).0) shape target) ∷ []
    → after ≡ before ++ edge_ops members source shape part rcv (take (i + 1) edges)
steps_more before now after members source shape part sent target rcv edges i lt s t old new =
    let e : ℕ × ℕ = slice_index_or edges i (0, 0) in
    let more : take (i + 1) edges ≡ take i edges ++ e ∷ [] = ap (λ k. take k edges) (add-one i) ∙ take_at edges i e (slice_get-get_or edges i (0, 0) lt) in
    new
    ∙ (ap (λ p. now ++ (slice_index members e.0, put_of (slice_index members e.1) shape p) ∷ (slice_index members e.1, get_of (slice_index members e.0) shape target) ∷ []) s
    ∙ (ap (λ p. now ++ (slice_index members e.0, put_of (slice_index members e.1) shape (part_sent source part rcv e.0)) ∷ (slice_index members e.1, get_of (slice_index members e.0) shape p) ∷ []) t
    ∙ (ap (λ l. l ++ edge_ops members source shape part rcv (e ∷ [])) old
    ∙ (join_assoc before (edge_ops members source shape part rcv (take i edges)) (edge_ops members source shape part rcv (e ∷ []))
    ∙ (ap (λ l. before ++ l) (sym (ops_join members source shape part rcv (take i edges) (e ∷ [])))
    ∙ ap (λ es. before ++ edge_ops members source shape part rcv es) (sym more))))))
