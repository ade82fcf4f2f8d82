-- The members of a scope in scope order: by increasing coordinate, and row-major for the whole grid.
-- A User's Guide to the BLACS, "Scope".
use Rattle.std.specs.Prelude.{◌≡◌, ℕ, ◌<◌, ◌&&◌, ◌==◌, if◌then◌else◌, Option, Some, None, List, length, map, slice_index}
use Rattle.std.specs.List.{range_with_len}
use Rattle.proc_grid.specs.Grid.{Grid, place_number, is_in, rank_at}
use Rattle.proc_grid.specs.declared.scope.Scope.{Scope}
use Rattle.proc_grid.specs.declared.scope.Scope.TheVariants.{Row, Column, All}

-- the row or the column is one of the grid's
abbrev pub IsScopeOf : Grid → Scope → Type 0
IsScopeOf g (Row p) = p < g.nprow
IsScopeOf g (Column q) = q < g.npcol
IsScopeOf g All = Unit {0}

-- the ranks at (p, 0), (p, 1) and so on, or at (0, q), (1, q) and so on, or at all places
abbrev pub members : Grid → Scope → List ℕ
members g (Row p) = map (λ q. slice_index g.ranks (place_number g.npcol p q)) (range_with_len 0 g.npcol)
members g (Column q) = map (λ p. slice_index g.ranks (place_number g.npcol p q)) (range_with_len 0 g.nprow)
members g All = g.ranks

-- where a place of the grid stands in the scope list, counted from 0, if it is a member of the scope
abbrev pub position_in : Grid → Scope → ℕ × ℕ → Option ℕ
position_in g (Row p) place = if is_in g place && place.0 == p then Some place.1 else None
position_in g (Column q) place = if is_in g place && place.1 == q then Some place.0 else None
position_in g All place = if is_in g place then Some (place_number g.npcol place.0 place.1) else None

-- the scope is one of the grid's, and its k-th member, counted from 0, is the rank at the place
pub record IsPosition (g : Grid) (scope : Scope) (place : ℕ × ℕ) (k : ℕ) : Type 0 where
  pub scope_is : IsScopeOf g scope
  pub within : k < length (members g scope)
  pub rank_is : rank_at g place.0 place.1 ≡ Some (slice_index (members g scope) k)

-- no rank stands twice in the list
abbrev pub AreDistinct : List ℕ → Type 0
AreDistinct ranks = (j k : ℕ) → j < length ranks → k < length ranks → slice_index ranks j ≡ slice_index ranks k → j ≡ k
