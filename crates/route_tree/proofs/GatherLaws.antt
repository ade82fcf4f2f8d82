-- Gathering along the edges of a route, in the opposite order and from child to parent: the source gets what each member had, exactly once.
use Rattle.std.proofs.Common.{◌≡◌, ◌≢◌, ℕ, zero, suc, ◌+◌, ◌-◌, ◌<◌, ◌≤◌, Bool, true, false, List, length, get_or, refl, sym, ap, ◌∙◌, arith, inl, inr, ◌⊎◌, Some}
use Rattle.std.specs.Prelude.{nat_eq, if◌then◌else◌}
use Rattle.std.proofs.lemmas.Bool.{cases_lt}
use Rattle.std.proofs.lemmas.Bool.Decides.{eqb_tells}
use Rattle.std.proofs.lemmas.Option.{slice_get-get_or, slice_get_within}
use Rattle.route_tree.specs.Routes.{IsEdge, IsReachedOnce, IsRoute}

-- the i-th edge of a list
abbrev pub edge_no : List (ℕ × ℕ) → ℕ → ℕ × ℕ
edge_no edges i = get_or edges i (0, 0)

-- what each member has after one edge: its start has joined to its own what the end had
abbrev pub joined_at : {X : Type 0} → (X → X → X) → ℕ × ℕ → (ℕ → X) → ℕ → X
joined_at join edge have p = if nat_eq p edge.0 then join (have edge.0) (have edge.1) else have p

-- and after the first i edges, the last of them first
abbrev pub gathered : {X : Type 0} → (X → X → X) → List (ℕ × ℕ) → ℕ → (ℕ → X) → ℕ → X
gathered join edges zero have p = have p
gathered join edges (suc i) have p = gathered join edges i (joined_at join (edge_no edges i) have) p

-- a function that carries one way of joining to another carries gathering along
pub gathered_map : {X Y : Type 0} (f : X → Y) (join : X → X → X) (join' : Y → Y → Y) → ((a b : X) → f (join a b) ≡ join' (f a) (f b))
    → (edges : List (ℕ × ℕ)) (i : ℕ) (have : ℕ → X) (got : ℕ → Y) → ((p : ℕ) → f (have p) ≡ got p) → (p : ℕ) → f (gathered join edges i have p) ≡ gathered join' edges i got p
gathered_map f join join' carries edges zero have got same p = same p
gathered_map {X} {Y} f join join' carries edges (suc i) have got same p =
    gathered_map f join join' carries edges i (joined_at join (edge_no edges i) have) (joined_at join' (edge_no edges i) got) (λ q. step q (nat_eq q (edge_no edges i).0) refl) p
  where
    step : (q : ℕ) (b : Bool) → nat_eq q (edge_no edges i).0 ≡ b → f (joined_at join (edge_no edges i) have q) ≡ joined_at join' (edge_no edges i) got q
    step q true e = rw e (carries (have (edge_no edges i).0) (have (edge_no edges i).1) ∙ ap (λ a. join' a (f (have (edge_no edges i).1))) (same (edge_no edges i).0) ∙ ap (λ a. join' (got (edge_no edges i).0) a) (same (edge_no edges i).1))
    step q false e = rw e (same q)

-- ---- numbers are kept: what the source and the ends of the first edges have, together

abbrev pub plus : ℕ → ℕ → ℕ
plus a b = a + b

abbrev pub ends_sum : List (ℕ × ℕ) → ℕ → (ℕ → ℕ) → ℕ
ends_sum edges zero have = 0
ends_sum edges (suc i) have = ends_sum edges i have + have (edge_no edges i).1

-- one member has so many more
abbrev pub raised : ℕ → ℕ → (ℕ → ℕ) → ℕ → ℕ
raised at more have p = if nat_eq p at then have at + more else have p

raised_same : (at more : ℕ) (have : ℕ → ℕ) (p : ℕ) → p ≡ at → raised at more have p ≡ have p + more
raised_same at more have p same = elim (eqb_tells p at) [ inl is ↦ rw is.0 (ap (λ q. have q + more) (sym same)) | inr other ↦ absurd (other.1 same) ]

raised_other : (at more : ℕ) (have : ℕ → ℕ) (p : ℕ) → p ≢ at → raised at more have p ≡ have p
raised_other at more have p ne = elim (eqb_tells p at) [ inl is ↦ absurd (ne is.1) | inr other ↦ rw other.0 refl ]

sum_none : (edges : List (ℕ × ℕ)) (i at more : ℕ) (have : ℕ → ℕ) → ((j : ℕ) → j < i → (edge_no edges j).1 ≢ at) → ends_sum edges i (raised at more have) ≡ ends_sum edges i have
sum_none edges zero at more have none = refl
sum_none edges (suc i) at more have none =
    let rest : ends_sum edges i (raised at more have) ≡ ends_sum edges i have = sum_none edges i at more have (λ j lt. none j (omega arith)) in
    let last : raised at more have (edge_no edges i).1 ≡ have (edge_no edges i).1 = raised_other at more have (edge_no edges i).1 (none i (omega arith)) in
    ap (λ a. a + raised at more have (edge_no edges i).1) rest ∙ ap (λ a. ends_sum edges i have + a) last

sum_one : (edges : List (ℕ × ℕ)) (i at more here : ℕ) (have : ℕ → ℕ) → here < i → (edge_no edges here).1 ≡ at → ((j : ℕ) → j < i → (edge_no edges j).1 ≡ at → j ≡ here)
    → ends_sum edges i (raised at more have) ≡ ends_sum edges i have + more
sum_one edges zero at more here have lt is once = absurd (omega arith)
sum_one edges (suc i) at more here have lt is once = elim (cases_lt here i) [
  | inl before ↦
      let rest : ends_sum edges i (raised at more have) ≡ ends_sum edges i have + more = sum_one edges i at more here have before is (λ j below same. once j (omega arith) same) in
      let last : raised at more have (edge_no edges i).1 ≡ have (edge_no edges i).1 = raised_other at more have (edge_no edges i).1 (λ same. absurd (let e : i ≡ here = once i (omega arith) same in omega arith)) in
      ap (λ a. a + raised at more have (edge_no edges i).1) rest ∙ ap (λ a. ends_sum edges i have + more + a) last ∙ omega arith
  | inr after ↦
      let e : here ≡ i = omega arith in
      let rest : ends_sum edges i (raised at more have) ≡ ends_sum edges i have = sum_none edges i at more have (λ j below same. absurd (let f : j ≡ here = once j (omega arith) same in omega arith)) in
      let last : raised at more have (edge_no edges i).1 ≡ have (edge_no edges i).1 + more = raised_same at more have (edge_no edges i).1 (ap (λ j. (edge_no edges j).1) (sym e) ∙ is) in
      ap (λ a. a + raised at more have (edge_no edges i).1) rest ∙ ap (λ a. ends_sum edges i have + a) last ∙ omega arith
]

-- the i-th edge of a route is an edge
pub route_edge : (n s : ℕ) (edges : List (ℕ × ℕ)) → IsRoute n s edges → (i : ℕ) → i < n - 1 → IsEdge edges i (edge_no edges i).0 (edge_no edges i).1
route_edge n s edges route i lt = slice_get-get_or edges i (0, 0) (let c = route.count in omega arith)

some_end : (p q : ℕ × ℕ) → Some p ≡ Some q → p.1 ≡ q.1
some_end p q e = let pair : p ≡ q = cc in ap (λ (r : ℕ × ℕ). r.1) pair

as_end : (edges : List (ℕ × ℕ)) (k m : ℕ) → IsEdge edges k (edge_no edges k).0 (edge_no edges k).1 → (edge_no edges k).1 ≡ m → IsEdge edges k (edge_no edges k).0 m
as_end edges k m e same = e ∙ ap (λ x. Some ((edge_no edges k).0, x)) same

-- an edge adds what its end had to what its start and the others before have together
step_kept : (n s : ℕ) (edges : List (ℕ × ℕ)) → IsRoute n s edges → (i : ℕ) → i < n - 1 → (have : ℕ → ℕ)
    → joined_at plus (edge_no edges i) have s + ends_sum edges i (joined_at plus (edge_no edges i) have) ≡ have s + ends_sum edges (suc i) have
step_kept n s edges route i lt have = at (route.earlier i from to own)
  where
    from : ℕ
    from = (edge_no edges i).0

    to : ℕ
    to = (edge_no edges i).1

    own : IsEdge edges i (edge_no edges i).0 (edge_no edges i).1
    own = route_edge n s edges route i lt

    at : ((edge_no edges i).0 ≡ s) ⊎ ((j : ℕ) × (from' : ℕ) × (j < i) × IsEdge edges j from' (edge_no edges i).0) → joined_at plus (edge_no edges i) have s + ends_sum edges i (joined_at plus (edge_no edges i) have) ≡ have s + ends_sum edges (suc i) have
    at (inl source) =
        let more : ℕ = have (edge_no edges i).1 in
        let first : raised (edge_no edges i).0 (have (edge_no edges i).1) have s ≡ have s + have (edge_no edges i).1 = raised_same (edge_no edges i).0 (have (edge_no edges i).1) have s (sym source) in
        let rest : ends_sum edges i (raised (edge_no edges i).0 (have (edge_no edges i).1) have) ≡ ends_sum edges i have
        = sum_none edges i (edge_no edges i).0 (have (edge_no edges i).1) have (λ j below same. route.not_source j (edge_no edges j).0 (edge_no edges j).1 (route_edge n s edges route j (omega arith)) (same ∙ source)) in
        ap (λ a. a + ends_sum edges i (raised (edge_no edges i).0 (have (edge_no edges i).1) have)) first ∙ ap (λ a. have s + have (edge_no edges i).1 + a) rest ∙ omega arith
    at (inr end) =
        let j : ℕ = end.0 in
        let below = end.2 in
        let here : IsEdge edges end.0 end.1 (edge_no edges i).0 = end.3 in
        let stands = route_edge n s edges route end.0 (omega arith) in
        let pair : Some (edge_no edges end.0) ≡ Some (end.1, (edge_no edges i).0) = sym stands ∙ here in
        let end_is : (edge_no edges end.0).1 ≡ (edge_no edges i).0 = some_end _ _ pair in
        let not_source : s ≢ (edge_no edges i).0 = λ same. route.not_source end.0 end.1 (edge_no edges i).0 here (sym same) in
        let first : raised (edge_no edges i).0 (have (edge_no edges i).1) have s ≡ have s = raised_other (edge_no edges i).0 (have (edge_no edges i).1) have s not_source in
        let reached : IsReachedOnce edges (edge_no edges i).0 = route.reached (edge_no edges i).0 ((route.ends end.0 end.1 (edge_no edges i).0 here).1) (λ same. not_source (sym same)) in
        let rest : ends_sum edges i (raised (edge_no edges i).0 (have (edge_no edges i).1) have) ≡ ends_sum edges i have + have (edge_no edges i).1
        = sum_one edges i (edge_no edges i).0 (have (edge_no edges i).1) end.0 have below end_is (λ k k_below same. reached.once k (edge_no edges k).0 (as_end edges k (edge_no edges i).0 (route_edge n s edges route k (omega arith)) same) ∙ sym (reached.once end.0 end.1 here)) in
        ap (λ a. a + ends_sum edges i (raised (edge_no edges i).0 (have (edge_no edges i).1) have)) first ∙ ap (λ a. have s + a) rest ∙ omega arith

-- the source gets what it and all ends had together
pub gathered_sum : (n s : ℕ) (edges : List (ℕ × ℕ)) → IsRoute n s edges → (i : ℕ) → i ≤ n - 1 → (have : ℕ → ℕ) → gathered plus edges i have s ≡ have s + ends_sum edges i have
gathered_sum n s edges route zero le have = omega arith
gathered_sum n s edges route (suc i) le have = gathered_sum n s edges route i (omega arith) (joined_at plus (edge_no edges i) have) ∙ step_kept n s edges route i (omega arith) have

-- ---- each member exactly once

-- member k alone has one
abbrev pub only : ℕ → ℕ → ℕ
only k p = if nat_eq p k then 1 else 0

only_same : (k p : ℕ) → p ≡ k → only k p ≡ 1
only_same k p same = elim (eqb_tells p k) [ inl is ↦ rw is.0 refl | inr other ↦ absurd (other.1 same) ]

only_other : (k p : ℕ) → p ≢ k → only k p ≡ 0
only_other k p ne = elim (eqb_tells p k) [ inl is ↦ absurd (ne is.1) | inr other ↦ rw other.0 refl ]

none_has : (edges : List (ℕ × ℕ)) (k i : ℕ) → ((j : ℕ) → j < i → (edge_no edges j).1 ≢ k) → ends_sum edges i (only k) ≡ 0
none_has edges k zero none = refl
none_has edges k (suc i) none =
    let rest : ends_sum edges i (only k) ≡ 0 = none_has edges k i (λ j lt. none j (omega arith)) in
    let last : only k (edge_no edges i).1 ≡ 0 = only_other k (edge_no edges i).1 (none i (omega arith)) in
    ap (λ a. a + only k (edge_no edges i).1) rest ∙ ap (λ a. 0 + a) last

one_has : (edges : List (ℕ × ℕ)) (k i here : ℕ) → here < i → (edge_no edges here).1 ≡ k → ((j : ℕ) → j < i → (edge_no edges j).1 ≡ k → j ≡ here) → ends_sum edges i (only k) ≡ 1
one_has edges k zero here lt is once = absurd (omega arith)
one_has edges k (suc i) here lt is once = elim (cases_lt here i) [
  | inl before ↦
      let rest : ends_sum edges i (only k) ≡ 1 = one_has edges k i here before is (λ j below same. once j (omega arith) same) in
      let last : only k (edge_no edges i).1 ≡ 0 = only_other k (edge_no edges i).1 (λ same. absurd (let e : i ≡ here = once i (omega arith) same in omega arith)) in
      ap (λ a. a + only k (edge_no edges i).1) rest ∙ ap (λ a. 1 + a) last
  | inr after ↦
      let e : here ≡ i = omega arith in
      let rest : ends_sum edges i (only k) ≡ 0 = none_has edges k i (λ j below same. absurd (let f : j ≡ here = once j (omega arith) same in omega arith)) in
      let last : only k (edge_no edges i).1 ≡ 1 = only_same k (edge_no edges i).1 (ap (λ j. (edge_no edges j).1) (sym e) ∙ is) in
      ap (λ a. a + only k (edge_no edges i).1) rest ∙ ap (λ a. 0 + a) last
]

-- over a whole route the source gets each of n members exactly once, and no other
pub gathers_each : (n s : ℕ) (edges : List (ℕ × ℕ)) → s < n → IsRoute n s edges → (k : ℕ) → k < n → gathered plus edges (n - 1) (only k) s ≡ 1
gathers_each n s edges s_in route k k_in = gathered_sum n s edges route (n - 1) (omega arith) (only k) ∙ elim (eqb_tells s k) [
  | inl is ↦
      let source : s ≡ k = is.1 in
      let none : ends_sum edges (n - 1) (only k) ≡ 0 = none_has edges k (n - 1) (λ j lt same. route.not_source j (edge_no edges j).0 (edge_no edges j).1 (route_edge n s edges route j lt) (same ∙ sym source)) in
      ap (λ a. a + ends_sum edges (n - 1) (only k)) (only_same k s source) ∙ ap (λ a. 1 + a) none
  | inr other ↦
      let ne : s ≢ k = other.1 in
      ap (λ a. a + ends_sum edges (n - 1) (only k)) (only_other k s ne) ∙ ap (λ a. 0 + a) (reached_sum ne (route.reached k k_in (λ same. ne (sym same))))
]
  where
    at_end : (i from : ℕ) → IsEdge edges i from k → i < n - 1 → (edge_no edges i).1 ≡ k
    at_end i from e lt = some_end (edge_no edges i) (from, k) (sym (route_edge n s edges route i lt) ∙ e)

    reached_sum : s ≢ k → IsReachedOnce edges k → ends_sum edges (n - 1) (only k) ≡ 1
    reached_sum ne r =
        let within : r.at < length edges = slice_get_within edges r.at _ r.edge in
        let count = route.count in
        let below : r.at < n - 1 = omega arith in
        one_has edges k (n - 1) r.at below (at_end r.at r.from r.edge below) (λ j lt same. r.once j (edge_no edges j).0 (route_edge n s edges route j lt ∙ ap (λ x. Some ((edge_no edges j).0, x)) same))

pub gathers_no_other : (n s : ℕ) (edges : List (ℕ × ℕ)) → s < n → IsRoute n s edges → (k : ℕ) → n ≤ k → gathered plus edges (n - 1) (only k) s ≡ 0
gathers_no_other n s edges s_in route k out =
    let ne : s ≢ k = λ same. absurd (omega arith) in
    let none : ends_sum edges (n - 1) (only k) ≡ 0 = none_has edges k (n - 1) (λ j lt same. absurd (let h = (route.ends j (edge_no edges j).0 (edge_no edges j).1 (route_edge n s edges route j lt)).1 in omega arith)) in
    gathered_sum n s edges route (n - 1) (omega arith) (only k) ∙ ap (λ a. a + ends_sum edges (n - 1) (only k)) (only_other k s ne) ∙ ap (λ a. 0 + a) none
