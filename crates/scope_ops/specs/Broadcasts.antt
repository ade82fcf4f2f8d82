-- The operations of a broadcast, and what is known before them.
use Rattle.std.specs.Prelude.{◌≡◌, ◌≢◌, ℕ, ◌<◌, cond, nat_eq, List, [], ◌∷◌, ◌++◌, length, slice_index}
use Rattle.msg_core.specs.Plans.{PlanView, waiting_lens}
use Rattle.route_tree.specs.declared.top.Top.{Top}
use Rattle.route_tree.specs.Parents.{edges_of}
use Rattle.route_tree.specs.Routes.{IsRoute}
use Rattle.pack_words.specs.declared.shape.Shape.{Shape}
use Rattle.pack_words.specs.declared.rank_op.RankOp.{RankOp}
use Rattle.pack_words.specs.GridState.{rank_steps}
use Rattle.pack_words.specs.GridShapes.{ShapesView, shape_of}
use Rattle.scope_ops.specs.declared.part.Part.{Part}
use Rattle.scope_ops.specs.declared.part.Spot.{Spot}
use Rattle.scope_ops.specs.Parts.{part_from}
use Rattle.scope_ops.specs.Ops.{put_of, get_of, Fits}

-- the part that member k sends: the source its own, another what it has received
abbrev pub part_sent : ℕ → Part → Spot → ℕ → Part
part_sent source part rcv k = cond (nat_eq k source) part (part_from rcv part)

-- along each edge one member sends and the other receives; members are by position
abbrev pub edge_ops : List ℕ → ℕ → Shape → Part → Spot → List (ℕ × ℕ) → List (ℕ × RankOp)
edge_ops members source shape part rcv [] = []
edge_ops members source shape part rcv (e ∷ es) =
    (slice_index members e.0, put_of (slice_index members e.1) shape (part_sent source part rcv e.0))
    ∷ (slice_index members e.1, get_of (slice_index members e.0) shape (part_from rcv part))
    ∷ edge_ops members source shape part rcv es

-- different positions have different ranks, all of the world
pub record AreMembers (ranks : ℕ) (members : List ℕ) : Type 0 where
  pub within : (k : ℕ) → k < length members → slice_index members k < ranks
  pub distinct : (j k : ℕ) → j < length members → k < length members → slice_index members j ≡ slice_index members k → j ≡ k

-- the arrays are there, and the parts fit the members that use them
pub record AllFit (v : ShapesView) (members : List ℕ) (source : ℕ) (part : Part) (rcv : Spot) : Type 0 where
  pub array : part.array < v.count
  pub rcv_array : rcv.array < v.count
  pub source_fits : Fits (shape_of v (slice_index members source) part.array) part
  pub others_fit : (k : ℕ) → k < length members → k ≢ source → Fits (shape_of v (slice_index members k) rcv.array) (part_from rcv part)

-- no message waits of a pair of two different members
abbrev pub IsQuiet : PlanView RankOp → List ℕ → Type 0
IsQuiet p members = (j k : ℕ) → j < length members → k < length members → j ≢ k → waiting_lens rank_steps p (slice_index members j) (slice_index members k) ≡ []

-- the operations of the topology's edges are appended, in their order
pub record IsRouted (before after : PlanView RankOp) (top : Top) (members : List ℕ) (source : ℕ) (shape : Shape) (part : Part) (rcv : Spot) : Type 0 where
  pub route : IsRoute (length members) source (edges_of top (length members) source)
  pub steps_are : after.steps ≡ before.steps ++ edge_ops members source shape part rcv (edges_of top (length members) source)
