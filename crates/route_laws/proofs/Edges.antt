-- The edges of a route as a list: no edge ends where this or an earlier one starts, and no two end at one member.
use Rattle.std.proofs.Common.{◌≡◌, ◌≢◌, ℕ, suc, ◌<◌, ◌≤◌, List, [], ◌∷◌, refl, sym, ap, ◌∙◌, arith, inl, inr, ◌⊎◌, Some}
use Rattle.route_tree.specs.Routes.{IsEdge, IsReachedOnce, IsRoute}

-- no edge ends at m
abbrev pub NoneEnds : ℕ → List (ℕ × ℕ) → Type 0
NoneEnds m [] = Unit {0}
NoneEnds m (e ∷ es) = (e.1 ≢ m) × NoneEnds m es

-- no edge ends where this or an earlier one starts, nor where an earlier one ends
abbrev pub IsTreeLike : List (ℕ × ℕ) → Type 0
IsTreeLike [] = Unit {0}
IsTreeLike (e ∷ es) = (e.1 ≢ e.0) × NoneEnds e.0 es × NoneEnds e.1 es × IsTreeLike es

-- a fact of each edge
abbrev pub EachEdge : (ℕ × ℕ → Type 0) → List (ℕ × ℕ) → Type 0
EachEdge P [] = Unit {0}
EachEdge P (e ∷ es) = P e × EachEdge P es

pub each_edge : (P : ℕ × ℕ → Type 0) (es : List (ℕ × ℕ)) → ((i from to : ℕ) → IsEdge es i from to → P (from, to)) → EachEdge P es
each_edge P [] h = tt
each_edge P (e ∷ es) h = (h 0 e.0 e.1 refl, each_edge P es (λ i from to at. h (suc i) from to at))

pub none_ends : (m : ℕ) (es : List (ℕ × ℕ)) → ((i from to : ℕ) → IsEdge es i from to → to ≢ m) → NoneEnds m es
none_ends m [] h = tt
none_ends m (e ∷ es) h = (h 0 e.0 e.1 refl, none_ends m es (λ i from to at. h (suc i) from to at))

to_end : (es : List (ℕ × ℕ)) (i from to m : ℕ) → to ≡ m → IsEdge es i from to → IsEdge es i from m
to_end es i from to m same at = at ∙ ap (λ x. Some (from, x)) same

pub tree_like : (es : List (ℕ × ℕ))
    → ((i j from to from' to' : ℕ) → IsEdge es i from to → IsEdge es j from' to' → i ≤ j → to' ≢ from)
    → ((i j from from' to : ℕ) → IsEdge es i from to → IsEdge es j from' to → i ≡ j)
    → IsTreeLike es
tree_like [] other once = tt
tree_like (e ∷ es) other once = (
  other 0 0 e.0 e.1 e.0 e.1 refl refl (omega arith),
  none_ends e.0 es (λ j from to at. other 0 (suc j) e.0 e.1 from to refl at (omega arith)),
  none_ends e.1 es (λ j from to at same. clash j (once 0 (suc j) e.0 from e.1 refl (to_end es j from to e.1 same at))),
  tree_like es
      (λ i j from to from' to' a b le. other (suc i) (suc j) from to from' to' a b (omega arith))
      (λ i j from from' to a b. back i j (once (suc i) (suc j) from from' to a b)),
)
  where
    clash : (j : ℕ) → 0 ≡ suc j → ⊥
    clash j e = omega arith

    back : (i j : ℕ) → suc i ≡ suc j → i ≡ j
    back i j e = omega arith

-- ---- of a route

pub ends_once : (n source : ℕ) (edges : List (ℕ × ℕ)) → IsRoute n source edges → (i j from from' to : ℕ) → IsEdge edges i from to → IsEdge edges j from' to → i ≡ j
ends_once n source edges route i j from from' to a b =
    let reached : IsReachedOnce edges to = route.reached to (route.ends i from to a).1 (route.not_source i from to a) in
    reached.once i from a ∙ sym (reached.once j from' b)

-- an edge that ends where another starts stands before it
pub ends_before : (n source : ℕ) (edges : List (ℕ × ℕ)) → IsRoute n source edges → (i j from to start : ℕ) → IsEdge edges i from to → IsEdge edges j start from → j < i
ends_before n source edges route i j from to start a b = at (route.earlier i from to a)
  where
    at : (from ≡ source) ⊎ ((k : ℕ) × (other : ℕ) × (k < i) × IsEdge edges k other from) → j < i
    at (inl is) = absurd (route.not_source j start from b is)
    at (inr h) =
        let same : j ≡ h.0 = ends_once n source edges route j h.0 start h.1 from b h.3 in
        let lt = h.2 in
        omega arith

pub route_like : (n source : ℕ) (edges : List (ℕ × ℕ)) → IsRoute n source edges → IsTreeLike edges
route_like n source edges route = tree_like edges
    (λ i j from to from' to' a b le same. no_end i j from to from' le (ends_before n source edges route i j from to from' a (to_end edges j from' to' from same b)))
    (ends_once n source edges route)
  where
    no_end : (i j from to from' : ℕ) → i ≤ j → j < i → ⊥
    no_end i j from to from' le lt = omega arith

-- an edge goes between two different members
pub ends_differ : (n source : ℕ) (edges : List (ℕ × ℕ)) → IsRoute n source edges → (i from to : ℕ) → IsEdge edges i from to → from ≢ to
ends_differ n source edges route i from to a same = no_end i (ends_before n source edges route i i from to from a (to_end edges i from to from (sym same) a))
  where
    no_end : (i : ℕ) → i < i → ⊥
    no_end i lt = omega arith

-- a child sends its own message up after its children: their edges stand after its own
pub children_later : (n source : ℕ) (edges : List (ℕ × ℕ)) → IsRoute n source edges → (i j from to child : ℕ) → IsEdge edges i from to → IsEdge edges j to child → i < j
children_later n source edges route i j from to child a b = ends_before n source edges route j i to child from b a

-- both ends are members
abbrev pub IsWithinScope : ℕ → ℕ × ℕ → Type 0
IsWithinScope n e = (e.0 < n) × (e.1 < n)

pub all_within : (n source : ℕ) (edges : List (ℕ × ℕ)) → IsRoute n source edges → EachEdge (IsWithinScope n) edges
all_within n source edges route = each_edge (IsWithinScope n) edges (λ i from to a. route.ends i from to a)
