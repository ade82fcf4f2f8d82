-- Why a combine or a barrier is refused: the first cause in its order.
use Rattle.std.specs.Prelude.{ℕ, ◌-◌, ◌*◌, Bool, true, false, not, ◌&&◌, ◌||◌, ◌==◌, nat_le, nat_lt, Option, Some, None, is_none, List, length, slice_index, if◌then◌else◌}
use Rattle.std.specs.Option.{option_or}
use Rattle.proc_grid.specs.FirstOf.{first_of}
use Rattle.proc_grid.specs.Grid.{Grid}
use Rattle.proc_grid.specs.Scopes.{members, position_in}
use Rattle.proc_grid.specs.declared.scope.Scope.{Scope}
use Rattle.proc_grid.specs.declared.scope.Scope.TheVariants.{Row, Column, All}
use Rattle.pack_words.specs.GridShapes.{ShapesView, shape_of}
use Rattle.scope_ops.specs.declared.part.Part.{Part}
use Rattle.scope_ops.specs.declared.scope_err.ScopeErr.{ScopeErr}
use Rattle.scope_ops.specs.declared.scope_err.ScopeErr.TheVariants.{NotInGrid, SameArray, OutOfArray, BadRcLead}
use Rattle.scope_ops.specs.Parts.{fits}
use Rattle.scope_ops.specs.Refusals.{many_fault}
use Rattle.scope_ops.specs.Scopes.{all_below}

-- the place whose process gathers: the destination, or the scope's first place where all are destinations
abbrev pub root_place : Scope → Option (ℕ × ℕ) → ℕ × ℕ
root_place scope (Some place) = place
root_place (Row p) None = (p, 0)
root_place (Column q) None = (0, q)
root_place All None = (0, 0)

-- two of the part's array, RA and CA are one
abbrev pub same_arrays : Part → Option (ℕ × ℕ) → Bool
same_arrays part None = false
same_arrays part (Some rc) = part.array == rc.0 || part.array == rc.1 || rc.0 == rc.1

-- RA and CA have as many columns as the part, on rank r
abbrev pub has_columns : ShapesView → ℕ → Part → Option (ℕ × ℕ) → Bool
has_columns v r part None = true
has_columns v r part (Some rc) = nat_le part.n (shape_of v r rc.0).1 && nat_le part.n (shape_of v r rc.1).1

-- the part fits the array of the k-th member, and there RA and CA have enough columns
abbrev pub is_in_arrays : ShapesView → List ℕ → Part → Option (ℕ × ℕ) → ℕ → Bool
is_in_arrays v ranks part rc k = fits (shape_of v (slice_index ranks k) part.array) part && has_columns v (slice_index ranks k) part rc

-- a leading dimension below so many rows
abbrev pub low_lead : ℕ → ℕ → Option ScopeErr
low_lead lead rows = if nat_lt lead rows then Some (BadRcLead lead rows) else None

-- the leading dimension of RA, and then of CA, on rank r
abbrev pub lead_fault : ShapesView → Part → Option (ℕ × ℕ) → ℕ → Option ScopeErr
lead_fault v part None r = None
lead_fault v part (Some rc) r = option_or (low_lead (shape_of v r rc.0).0 part.m) (low_lead (shape_of v r rc.1).0 part.m)

-- the first member, in scope order, whose RA or CA has too low a leading dimension
abbrev pub first_lead : ShapesView → List ℕ → Part → Option (ℕ × ℕ) → Option ScopeErr
first_lead v ranks part rc = first_of (λ k. lead_fault v part rc (slice_index ranks k)) (length ranks)

-- how many operations, and how many messages, a combine of n members has: to one destination, or to all
abbrev pub combine_count : ℕ → Option (ℕ × ℕ) → ℕ
combine_count n (Some place) = 3 * n - 1
combine_count n None = 6 * n - 4

abbrev pub combine_messages : ℕ → Option (ℕ × ℕ) → ℕ
combine_messages n (Some place) = n - 1
combine_messages n None = 2 * (n - 1)

-- why the arrays of these members are refused
abbrev pub arrays_fault : ShapesView → List ℕ → Part → Option (ℕ × ℕ) → Option ScopeErr
arrays_fault v ranks part rc =
    if same_arrays part rc then Some SameArray
    else if not (all_below (is_in_arrays v ranks part rc) (length ranks)) then Some OutOfArray
    else first_lead v ranks part rc

-- why a combine is refused, of a plan that has so many operations
abbrev pub combine_fault : ℕ → ShapesView → Grid → Scope → Option (ℕ × ℕ) → Part → Option (ℕ × ℕ) → Option ScopeErr
combine_fault have v g scope dest part rc =
    if is_none (position_in g scope (root_place scope dest)) then Some NotInGrid
    else option_or (arrays_fault v (members g scope) part rc) (many_fault have (combine_count (length (members g scope)) dest))

-- and a barrier
abbrev pub barrier_fault : ℕ → Grid → Scope → Option ScopeErr
barrier_fault have g scope =
    if is_none (position_in g scope (root_place scope None)) then Some NotInGrid
    else many_fault have (4 * (length (members g scope) - 1))
