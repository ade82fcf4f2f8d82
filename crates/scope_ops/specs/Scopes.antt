-- A place in a scope, and which members use which part.
use Rattle.std.specs.Prelude.{◌≡◌, ℕ, zero, suc, ◌<◌, ◌≤◌, ◌-◌, ◌*◌, Bool, true, not, ◌&&◌, Option, Some, is_none, List, length, slice_index, if◌then◌else◌}
use Rattle.proc_grid.specs.Grid.{Grid, IsGrid, or_zero}
use Rattle.proc_grid.specs.Scopes.{IsPosition, members, position_in}
use Rattle.proc_grid.specs.declared.scope.Scope.{Scope}
use Rattle.pack_words.specs.GridShapes.{ShapesView, IsShapes, shape_of}
use Rattle.scope_ops.specs.declared.part.Part.{Part}
use Rattle.scope_ops.specs.declared.part.Spot.{Spot}
use Rattle.scope_ops.specs.declared.scope_err.ScopeErr.{ScopeErr}
use Rattle.scope_ops.specs.declared.scope_err.ScopeErr.TheVariants.{NotInGrid, OutOfArray}
use Rattle.scope_ops.specs.Parts.{fits}
use Rattle.scope_ops.specs.Refusals.{many_fault}
use Rattle.scope_ops.specs.Broadcasts.{part_sent, AreMembers}

-- the members of the scope, in scope order, and the position of a place among them
pub record IsListed (g : Grid) (v : ShapesView) (scope : Scope) (place : ℕ × ℕ) (ranks : List ℕ) (k : ℕ) : Type 0 where
  pub grid : IsGrid g
  pub ranks_are : ranks ≡ members g scope
  pub position : position_in g scope place ≡ Some k
  pub place_is : IsPosition g scope place k
  pub within : k < length ranks
  pub few : length ranks ≤ 64
  pub members_are : AreMembers v.ranks ranks
  pub shapes_are : IsShapes v

-- all numbers below n pass the test
abbrev pub all_below : (ℕ → Bool) → ℕ → Bool
all_below test zero = true
all_below test (suc n) = all_below test n && test n

-- the part that member k uses fits its array
abbrev pub member_fits : ShapesView → List ℕ → ℕ → Part → Spot → ℕ → Bool
member_fits v ranks source part rcv k = fits (shape_of v (slice_index ranks k) (part_sent source part rcv k).array) (part_sent source part rcv k)

-- why a broadcast is refused, of a plan that has so many operations
abbrev pub broadcast_fault : ℕ → ShapesView → Grid → Scope → Part → ℕ × ℕ → Spot → Option ScopeErr
broadcast_fault have v g scope part src rcv =
    if is_none (position_in g scope src) then Some NotInGrid
    else if not (all_below (member_fits v (members g scope) (or_zero (position_in g scope src)) part rcv) (length (members g scope))) then Some OutOfArray
    else many_fault have (2 * (length (members g scope) - 1))
