-- What a list of edges has to be, so that a message from the source reaches every member once.
use Rattle.std.specs.Prelude.{◌≡◌, ◌≢◌, ℕ, zero, suc, ◌-◌, ◌<◌, ◌⊎◌, List, length, slice_get, Some}

-- the i-th edge goes between these members
abbrev pub IsEdge : List (ℕ × ℕ) → ℕ → ℕ → ℕ → Type 0
IsEdge edges i from to = slice_get edges i ≡ Some (from, to)

-- a member is the end of one edge, and of no other
pub record IsReachedOnce (edges : List (ℕ × ℕ)) (member : ℕ) : Type 0 where
  pub at : ℕ
  pub from : ℕ
  pub edge : IsEdge edges at from member
  pub once : (i other : ℕ) → IsEdge edges i other member → i ≡ at

-- a member is the source, or the end of an edge before the i-th
abbrev pub IsReachedBefore : List (ℕ × ℕ) → ℕ → ℕ → ℕ → Type 0
IsReachedBefore edges source i member = (member ≡ source) ⊎ ((j : ℕ) × (from : ℕ) × (j < i) × IsEdge edges j from member)

-- every member but the source is the end of exactly one edge, and each edge starts where one ended before it, or at the source
pub record IsRoute (n source : ℕ) (edges : List (ℕ × ℕ)) : Type 0 where
  pub count : length edges ≡ n - 1
  pub ends : (i from to : ℕ) → IsEdge edges i from to → (from < n) × (to < n)
  pub reached : (member : ℕ) → member < n → member ≢ source → IsReachedOnce edges member
  pub not_source : (i from to : ℕ) → IsEdge edges i from to → to ≢ source
  pub earlier : (i from to : ℕ) → IsEdge edges i from to → IsReachedBefore edges source i from

-- a member is no further from the source than so many edges
abbrev pub IsWithin : List (ℕ × ℕ) → ℕ → ℕ → ℕ → Type 0
IsWithin edges source zero member = member ≡ source
IsWithin edges source (suc d) member = IsWithin edges source d member ⊎ ((i : ℕ) × (from : ℕ) × IsEdge edges i from member × IsWithin edges source d from)
