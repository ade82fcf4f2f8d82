-- Why a call is refused: the first cause in its order. Want of memory may come in the place of any answer.
use Rattle.std.specs.Prelude.{◌≡◌, ℕ, ◌+◌, ◌<◌, ◌⊎◌, cond, not, ◌&&◌, nat_eq, nat_lt, Option, Some, None, Result, Err, IsOkUnless, List, length, slice_get, slice_index, if◌then◌else◌}
use Rattle.msg_core.specs.Plans.{PlanView}
use Rattle.msg_core.specs.declared.fault.PlanErr.{PlanErr}
use Rattle.msg_core.specs.declared.fault.PlanErr.TheVariants as plan_err
use Rattle.proc_grid.specs.Grid.{Grid, is_in, rank_of}
use Rattle.pack_words.specs.declared.shape.Shape.{Shape}
use Rattle.pack_words.specs.declared.rank_op.RankOp.{RankOp}
use Rattle.pack_words.specs.GridShapes.{ShapesView, shape_of}
use Rattle.pack_words.specs.Parts.{part_spots}
use Rattle.scope_ops.specs.declared.part.Part.{Part}
use Rattle.scope_ops.specs.declared.scope_err.ScopeErr.{ScopeErr}
use Rattle.scope_ops.specs.declared.scope_err.ScopeErr.TheVariants.{NotInGrid, OutOfArray, NoMessage, WrongLength, TooManyOps, NoMemory}
use Rattle.scope_ops.specs.Parts.{fits, cut_of}

-- plan, shapes and grid are of one world: as many ranks, and the grid's ranks are among them
pub record AreOfOneWorld (p : PlanView RankOp) (v : ShapesView) (g : Grid) : Type 0 where
  pub shapes_ranks : v.ranks ≡ p.ranks
  pub grid_ranks : (k : ℕ) → k < length g.ranks → slice_index g.ranks k < p.ranks

-- so many operations more are too many for a plan that has some
abbrev pub many_fault : ℕ → ℕ → Option ScopeErr
many_fault have more = if nat_lt 1048576 (have + more) then Some TooManyOps else None

-- why a call refuses with this first cause, or none
abbrev pub IsAnswer : Result (Unit {0}) ScopeErr → Option ScopeErr → Type 0
IsAnswer result None = IsOkUnless result NoMemory
IsAnswer result (Some e) = (result ≡ Err e) ⊎ (result ≡ Err NoMemory)

-- the plan's refusal as a call's
abbrev pub as_scope_err : PlanErr → ScopeErr
as_scope_err (plan_err.NoMessage from to) = NoMessage from to
as_scope_err (plan_err.WrongLength have want) = WrongLength have want
as_scope_err plan_err.TooManyOps = TooManyOps
as_scope_err plan_err.NoMemory = NoMemory

-- both places are in the grid and the part fits the rank at the first, or why not; else what comes then
abbrev pub point_fault : Grid → ShapesView → ℕ × ℕ → ℕ × ℕ → Part → Option ScopeErr → Option ScopeErr
point_fault g v me other part later =
    if not (is_in g me && is_in g other) then Some NotInGrid
    else if not (fits (shape_of v (rank_of g me) part.array) part) then Some OutOfArray
    else later

-- why a send is refused, of a plan that has so many operations
abbrev pub send_fault : ℕ → ShapesView → Grid → ℕ × ℕ → Part → ℕ × ℕ → Option ScopeErr
send_fault have v g me part dest = point_fault g v me dest part (many_fault have 1)

-- the first message that waits has this length, or why not; else what comes then
abbrev pub message_fault : Option ℕ → ℕ → ℕ → ℕ → Option ScopeErr → Option ScopeErr
message_fault None from to want later = Some (NoMessage from to)
message_fault (Some have) from to want later = cond (nat_eq have want) later (Some (WrongLength have want))

-- how many elements of a part are selected
abbrev pub part_count : Shape → Part → ℕ
part_count shape part = length (part_spots (cut_of shape part) part.i part.j)

-- why a receive is refused, of a plan that has so many operations, where messages of these lengths wait for each pair
abbrev pub receive_fault : ℕ → (ℕ → ℕ → List ℕ) → ShapesView → Grid → ℕ × ℕ → Shape → Part → ℕ × ℕ → Option ScopeErr
receive_fault have lens v g me shape part src =
    point_fault g v me src part
    (message_fault (slice_get (lens (rank_of g src) (rank_of g me)) 0) (rank_of g src) (rank_of g me) (part_count shape part) (many_fault have 1))
