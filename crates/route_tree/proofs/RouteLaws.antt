-- Laws of the edges of a topology: what makes them a route, and how far the hypercube's members are.
use Rattle.std.proofs.Common.{◌≡◌, ◌≢◌, ℕ, zero, suc, ◌+◌, ◌-◌, ◌%◌, ◌^◌, ◌<◌, ◌≤◌, [], ◌∷◌, ◌++◌, length, map, refl, sym, ap, ◌∙◌, arith, inl, inr, ◌⊎◌, Some}
use Rattle.std.specs.Prelude.{slice_get}
use Rattle.std.specs.List.{range_with_len}
use Rattle.std.proofs.Math.Nat.{mod-lt, mod-eq_of_lt, mod-eq-sub-mod, pow-suc}
use Rattle.std.proofs.lemmas.Nat.{pow_below, pow_pos}
use Rattle.std.proofs.lemmas.Bool.{cases_lt}
use Rattle.std.proofs.lemmas.Option.{slice_get-get_or, slice_get_within}
use Rattle.std.proofs.lemmas.List.FromFn.{get_or-map-range_with_len, length-map-range_with_len}
use Rattle.route_tree.specs.declared.top.Top.{Top}
use Rattle.route_tree.specs.declared.top.Top.TheVariants.{I, D, S, H, F, M, T}
use Rattle.route_tree.specs.Parents.{highest_one, parent_of, number_of, place_of, edge_of, edges_of, HasBranches}
use Rattle.route_tree.specs.Routes.{IsEdge, IsReachedOnce, IsReachedBefore, IsRoute, IsWithin}
use Rattle.route_tree.proofs.ParentLaws.{power_is, number_back, number_in, parent_in, parent_earlier}

-- ---- positions

-- a number below 2n, modulo n
wrapped : (n m : ℕ) → m < n + n → ((m < n) × (m % n ≡ m)) ⊎ ((n ≤ m) × (m % n ≡ m - n))
wrapped n m lt = elim (cases_lt m n) [
  | inl low ↦ inl (low, mod-eq_of_lt low)
  | inr high ↦ let less : m - n < n = omega arith in inr (high, mod-eq-sub-mod high ∙ mod-eq_of_lt less)
]

pub place_in : (top : Top) (n s k : ℕ) → s < n → place_of top n s k < n
place_in I n s k lt = mod-lt (s + k) (omega arith)
place_in D n s k lt = mod-lt (s + (n - k)) (omega arith)
place_in S n s k lt = mod-lt (s + k) (omega arith)
place_in H n s k lt = mod-lt (s + k) (omega arith)
place_in F n s k lt = mod-lt (s + k) (omega arith)
place_in M n s k lt = mod-lt (s + k) (omega arith)
place_in (T b) n s k lt = mod-lt (s + k) (omega arith)

up_zero : (n s : ℕ) → s < n → (s + 0) % n ≡ s
up_zero n s lt = let e : s + 0 ≡ s = omega arith in rw e (mod-eq_of_lt lt)

down_zero : (n s : ℕ) → s < n → (s + (n - 0)) % n ≡ s
down_zero n s lt = elim (wrapped n (s + (n - 0)) (omega arith)) [ inl low ↦ absurd (let l = low.0 in omega arith) | inr high ↦ high.1 ∙ omega arith ]

pub place_zero : (top : Top) (n s : ℕ) → s < n → place_of top n s 0 ≡ s
place_zero I n s lt = up_zero n s lt
place_zero D n s lt = down_zero n s lt
place_zero S n s lt = up_zero n s lt
place_zero H n s lt = up_zero n s lt
place_zero F n s lt = up_zero n s lt
place_zero M n s lt = up_zero n s lt
place_zero (T b) n s lt = up_zero n s lt

-- numbers below 2n that are the same modulo n
wrapped_same : (n m p : ℕ) → m < n + n → p < n + n → m % n ≡ p % n → (m ≡ p) ⊎ ((m ≡ p + n) ⊎ (p ≡ m + n))
wrapped_same n m p m_lt p_lt same = at (wrapped n m m_lt) (wrapped n p p_lt)
  where
    at : ((m < n) × (m % n ≡ m)) ⊎ ((n ≤ m) × (m % n ≡ m - n)) → ((p < n) × (p % n ≡ p)) ⊎ ((n ≤ p) × (p % n ≡ p - n)) → (m ≡ p) ⊎ ((m ≡ p + n) ⊎ (p ≡ m + n))
    at (inl a) (inl b) = inl (sym a.1 ∙ same ∙ b.1)
    at (inl a) (inr b) = let e : m ≡ p - n = sym a.1 ∙ same ∙ b.1 in let le = b.0 in inr (inr (omega arith))
    at (inr a) (inl b) = let e : m - n ≡ p = sym a.1 ∙ same ∙ b.1 in let le = a.0 in inr (inl (omega arith))
    at (inr a) (inr b) = let e : m - n ≡ p - n = sym a.1 ∙ same ∙ b.1 in let l = a.0 in let r = b.0 in inl (omega arith)

up_same : (n s k j : ℕ) → s < n → k < n → j < n → (s + k) % n ≡ (s + j) % n → k ≡ j
up_same n s k j s_in k_in j_in same = elim (wrapped_same n (s + k) (s + j) (omega arith) (omega arith) same) [
  | inl e ↦ omega arith
  | inr other ↦ elim other [ inl e ↦ absurd (omega arith) | inr e ↦ absurd (omega arith) ]
]

down_same : (n s k j : ℕ) → s < n → k < n → j < n → (s + (n - k)) % n ≡ (s + (n - j)) % n → k ≡ j
down_same n s k j s_in k_in j_in same = elim (wrapped_same n (s + (n - k)) (s + (n - j)) (omega arith) (omega arith) same) [
  | inl e ↦ omega arith
  | inr other ↦ elim other [ inl e ↦ absurd (omega arith) | inr e ↦ absurd (omega arith) ]
]

pub place_same : (top : Top) (n s k j : ℕ) → s < n → k < n → j < n → place_of top n s k ≡ place_of top n s j → k ≡ j
place_same I n s k j s_in k_in j_in same = up_same n s k j s_in k_in j_in same
place_same D n s k j s_in k_in j_in same = down_same n s k j s_in k_in j_in same
place_same S n s k j s_in k_in j_in same = up_same n s k j s_in k_in j_in same
place_same H n s k j s_in k_in j_in same = up_same n s k j s_in k_in j_in same
place_same F n s k j s_in k_in j_in same = up_same n s k j s_in k_in j_in same
place_same M n s k j s_in k_in j_in same = up_same n s k j s_in k_in j_in same
place_same (T b) n s k j s_in k_in j_in same = up_same n s k j s_in k_in j_in same

-- the member at a position
pub record Numbered (place : ℕ → ℕ) (n m : ℕ) : Type 0 where
  pub number : ℕ
  pub below : number < n
  pub is : place number ≡ m

up_onto : (n s m : ℕ) → s < n → m < n → Numbered (λ k. (s + k) % n) n m
up_onto n s m s_in m_in = elim (cases_lt m s) [
  | inl before ↦ let e : s + (m + n - s) ≡ m + n = omega arith in let back : (m + n) % n ≡ m = wrapped_back n m m_in in record { number = m + n - s; below = omega arith; is = rw e back }
  | inr behind ↦ let e : s + (m - s) ≡ m = omega arith in record { number = m - s; below = omega arith; is = rw e (mod-eq_of_lt m_in) }
]
  where
    wrapped_back : (n m : ℕ) → m < n → (m + n) % n ≡ m
    wrapped_back n m lt = let le : n ≤ m + n = omega arith in let e : m + n - n ≡ m = omega arith in mod-eq-sub-mod le ∙ ap (λ x. x % n) e ∙ mod-eq_of_lt lt

down_onto : (n s m : ℕ) → s < n → m < n → Numbered (λ k. (s + (n - k)) % n) n m
down_onto n s m s_in m_in = elim (cases_lt s m) [
  | inl behind ↦ let e : s + (n - (s + n - m)) ≡ m = omega arith in record { number = s + n - m; below = omega arith; is = rw e (mod-eq_of_lt m_in) }
  | inr before ↦ let e : s + (n - (s - m)) ≡ m + n = omega arith in let back : (m + n) % n ≡ m = wrapped_back n m m_in in record { number = s - m; below = omega arith; is = rw e back }
]
  where
    wrapped_back : (n m : ℕ) → m < n → (m + n) % n ≡ m
    wrapped_back n m lt = let le : n ≤ m + n = omega arith in let e : m + n - n ≡ m = omega arith in mod-eq-sub-mod le ∙ ap (λ x. x % n) e ∙ mod-eq_of_lt lt

pub place_onto : (top : Top) (n s m : ℕ) → s < n → m < n → Numbered (place_of top n s) n m
place_onto I n s m s_in m_in = up_onto n s m s_in m_in
place_onto D n s m s_in m_in = down_onto n s m s_in m_in
place_onto S n s m s_in m_in = up_onto n s m s_in m_in
place_onto H n s m s_in m_in = up_onto n s m s_in m_in
place_onto F n s m s_in m_in = up_onto n s m s_in m_in
place_onto M n s m s_in m_in = up_onto n s m s_in m_in
place_onto (T b) n s m s_in m_in = up_onto n s m s_in m_in

-- ---- the edges

more_from : {X : Type 0} (f : ℕ → X) (a m : ℕ) → map f (range_with_len a (suc m)) ≡ map f (range_with_len a m) ++ f (a + m) ∷ []
more_from f a zero = let e : a + 0 ≡ a = omega arith in rw e refl
more_from f a (suc m) = let e : a + 1 + m ≡ a + suc m = omega arith in ap (λ xs. f a ∷ xs) (more_from f (a + 1) m) ∙ rw e refl

-- one edge more
pub edges_more : (top : Top) (n s i : ℕ) → 0 < i → map (edge_of top n s) (range_with_len 1 i) ≡ map (edge_of top n s) (range_with_len 1 (i - 1)) ++ edge_of top n s i ∷ []
edges_more top n s zero lt = absurd (omega arith)
edges_more top n s (suc i) lt =
    let last : 1 + i ≡ suc i = omega arith in
    let before : suc i - 1 ≡ i = omega arith in
    rw before (more_from (edge_of top n s) 1 i ∙ ap (λ j. map (edge_of top n s) (range_with_len 1 i) ++ edge_of top n s j ∷ []) last)

abbrev no_edge : ℕ × ℕ
no_edge = (0, 0)

pub length-edges_of : (top : Top) (n s : ℕ) → length (edges_of top n s) ≡ n - 1
length-edges_of top n s = length-map-range_with_len (edge_of top n s) 1 (n - 1)

pub edge_at : (top : Top) (n s i : ℕ) → i < n - 1 → slice_get (edges_of top n s) i ≡ Some (edge_of top n s (i + 1))
edge_at top n s i lt =
    let within : i < length (edges_of top n s) = rw (length-edges_of top n s) lt in
    slice_get-get_or (edges_of top n s) i no_edge within ∙ ap Some (get_or-map-range_with_len (edge_of top n s) 1 (n - 1) i (i + 1) no_edge lt (omega arith))

-- the member that an edge of the list ends at, by its number
pub record Ends (top : Top) (n s i from to : ℕ) : Type 0 where
  pub below : i < n - 1
  pub from_is : from ≡ place_of top n s (parent_of top n (number_of top n (i + 1)))
  pub to_is : to ≡ place_of top n s (number_of top n (i + 1))

pub edge_is : (top : Top) (n s i from to : ℕ) → IsEdge (edges_of top n s) i from to → Ends top n s i from to
edge_is top n s i from to e =
    let within : i < length (edges_of top n s) = slice_get_within (edges_of top n s) i _ e in
    let below : i < n - 1 = rw (length-edges_of top n s) at within in
    let same : Some (from, to) ≡ Some (edge_of top n s (i + 1)) = sym e ∙ edge_at top n s i below in
    let pair : (from, to) ≡ edge_of top n s (i + 1) = cc in
    record { below = below; from_is = ap (λ (p : ℕ × ℕ). p.0) pair; to_is = ap (λ (p : ℕ × ℕ). p.1) pair }

-- the edge that ends at member k
pub edge_to : (top : Top) (n s k : ℕ) → 0 < k → k < n → IsEdge (edges_of top n s) (number_of top n k - 1) (place_of top n s (parent_of top n k)) (place_of top n s k)
edge_to top n s k pos lt =
    let there = number_in top n k pos lt in
    let low = there.0 in
    let high = there.1 in
    let next : number_of top n k - 1 + 1 ≡ number_of top n k = omega arith in
    let own : number_of top n (number_of top n k - 1 + 1) ≡ k = ap (number_of top n) next ∙ number_back top n k lt in
    edge_at top n s (number_of top n k - 1) (omega arith) ∙ ap (λ j. Some (place_of top n s (parent_of top n j), place_of top n s j)) own

pub is_route : (top : Top) (n s : ℕ) → s < n → HasBranches top → IsRoute n s (edges_of top n s)
is_route top n s s_in ok = record {
  count = length-edges_of top n s;
  ends = λ i from to e.
      let h = edge_is top n s i from to e in
      (rw h.from_is (place_in top n s _ s_in), rw h.to_is (place_in top n s _ s_in));
  reached = λ m m_in other. reached m m_in other (place_onto top n s m s_in m_in);
  not_source = λ i from to e back.
      let h = edge_is top n s i from to e in
      let lt = h.below in
      let there = number_in top n (i + 1) (omega arith) (omega arith) in
      let zero_in : 0 < n = omega arith in
      let none : number_of top n (i + 1) ≡ 0 = place_same top n s (number_of top n (i + 1)) 0 s_in there.1 zero_in (sym h.to_is ∙ back ∙ sym (place_zero top n s s_in)) in
      let pos = there.0 in
      absurd (omega arith);
  earlier = λ i from to e. earlier i from (edge_is top n s i from to e);
}
  where
    reached : (m : ℕ) → m < n → m ≢ s → Numbered (place_of top n s) n m → IsReachedOnce (edges_of top n s) m
    reached m m_in other k =
        let lt = k.below in
        let pos : 0 < k.number = elim (cases_lt 0 k.number) [ inl holds ↦ holds | inr fails ↦ absurd (other (let none : k.number ≡ 0 = omega arith in sym k.is ∙ ap (place_of top n s) none ∙ place_zero top n s s_in)) ] in
        record {
          at = number_of top n k.number - 1;
          from = place_of top n s (parent_of top n k.number);
          edge = rw k.is at (edge_to top n s k.number pos lt);
          once = λ i from e.
              let h = edge_is top n s i from m e in
              let below = h.below in
              let there = number_in top n (i + 1) (omega arith) (omega arith) in
              let same : number_of top n (i + 1) ≡ k.number = place_same top n s (number_of top n (i + 1)) k.number s_in there.1 lt (sym h.to_is ∙ sym k.is) in
              let back : i + 1 ≡ number_of top n k.number = sym (number_back top n (i + 1) (omega arith)) ∙ ap (number_of top n) same in
              omega arith;
        }

    earlier : (i from : ℕ) {to : ℕ} → Ends top n s i from to → IsReachedBefore (edges_of top n s) s i from
    earlier i from h =
        let below = h.below in
        let there = number_in top n (i + 1) (omega arith) (omega arith) in
        let k : ℕ = number_of top n (i + 1) in
        let p : ℕ = parent_of top n (number_of top n (i + 1)) in
        let p_in : parent_of top n (number_of top n (i + 1)) < n = parent_in top n (number_of top n (i + 1)) ok there.0 there.1 in
        let before : number_of top n (parent_of top n (number_of top n (i + 1))) < number_of top n (number_of top n (i + 1)) = parent_earlier top n (number_of top n (i + 1)) ok there.0 there.1 in
        let back : number_of top n (number_of top n (i + 1)) ≡ i + 1 = number_back top n (i + 1) (omega arith) in
        elim (cases_lt 0 (parent_of top n (number_of top n (i + 1)))) [
          | inl pos ↦
              let parent_there = number_in top n (parent_of top n (number_of top n (i + 1))) pos p_in in
              let low = parent_there.0 in
              inr (
                number_of top n (parent_of top n (number_of top n (i + 1))) - 1,
                place_of top n s (parent_of top n (parent_of top n (number_of top n (i + 1)))),
                omega arith,
                rw (h.from_is) (edge_to top n s (parent_of top n (number_of top n (i + 1))) pos p_in),
              )
          | inr fails ↦
              let none : parent_of top n (number_of top n (i + 1)) ≡ 0 = omega arith in
              inl (h.from_is ∙ ap (place_of top n s) none ∙ place_zero top n s s_in)
        ]

-- ---- how far the members of the hypercube are

near_at : (n s d k : ℕ) → s < n → n ≤ 64 → k < 2 ^ d → k < n → IsWithin (edges_of H n s) s d (place_of H n s k)
near_at n s zero k s_in limit low lt = let none : k ≡ 0 = omega arith in rw none (place_zero H n s s_in)
near_at n s (suc d) k s_in limit low lt = elim (cases_lt k (2 ^ d)) [
  | inl near ↦ inl (near_at n s d k s_in limit near lt)
  | inr far ↦
      let e : 2 ^ suc d ≡ 2 ^ d + 2 ^ d = let p = pow-suc 2 d in omega arith in
      let bit : highest_one k ≡ 2 ^ d = power_is 31 d k (small d far lt limit) far (omega arith) in
      let power = pow_pos d in
      let parent : parent_of H n k ≡ k - 2 ^ d = ap (λ b. k - b) bit in
      inr (k - 1, place_of H n s (k - 2 ^ d), edge_to H n s k (omega arith) lt ∙ ap (λ j. Some (place_of H n s j, place_of H n s k)) parent, near_at n s d (k - 2 ^ d) s_in limit (omega arith) (omega arith))
]
  where
    small : (d : ℕ) → 2 ^ d ≤ k → k < n → n ≤ 64 → d ≤ 31
    small d reaches k_in limit = elim (cases_lt 31 d) [ inl far ↦ absurd (let p = pow_below 31 d far in omega arith) | inr le ↦ le ]

pub all_near : (n s : ℕ) → s < n → n ≤ 64 → (d : ℕ) → n ≤ 2 ^ d → (m : ℕ) → m < n → IsWithin (edges_of H n s) s d m
all_near n s s_in limit d digits m m_in = near (place_onto H n s m s_in m_in)
  where
    near : Numbered (place_of H n s) n m → IsWithin (edges_of H n s) s d m
    near k = let lt = k.below in rw k.is at (near_at n s d k.number s_in limit (omega arith) lt)
