-- What every call promises of its plan.
use Rattle.std.specs.Prelude.{◌≡◌, ℕ, ◌-◌, ◌*◌, Option, Result, OnErr, List, ◌++◌, length}
use Rattle.msg_core.specs.Plans.{PlanView}
use Rattle.proc_grid.specs.Grid.{Grid, or_zero, rank_of}
use Rattle.proc_grid.specs.Scopes.{IsScopeOf, members, position_in}
use Rattle.proc_grid.specs.declared.scope.Scope.{Scope}
use Rattle.route_tree.specs.declared.top.Top.{Top}
use Rattle.route_tree.specs.Parents.{edges_of}
use Rattle.pack_words.specs.declared.shape.Shape.{Shape}
use Rattle.pack_words.specs.declared.fold_kind.FoldKind.{FoldKind}
use Rattle.pack_words.specs.declared.rank_op.RankOp.{RankOp}
use Rattle.pack_words.specs.Accumulators.{message_words, has_places}
use Rattle.pack_words.specs.GridState.{GridState}
use Rattle.pack_words.specs.GridShapes.{ShapesView}
use Rattle.pack_words.specs.GridPlans.{Appends, Grows}
use Rattle.scope_ops.specs.declared.part.Part.{Part}
use Rattle.scope_ops.specs.declared.part.Spot.{Spot}
use Rattle.scope_ops.specs.declared.scope_err.ScopeErr.{ScopeErr}
use Rattle.scope_ops.specs.Parts.{part_from}
use Rattle.scope_ops.specs.Lines.{broadcast_line}
use Rattle.scope_ops.specs.Refusals.{part_count}
use Rattle.scope_ops.specs.Broadcasts.{IsQuiet, edge_ops}
use Rattle.scope_ops.specs.Combines.{combine_line}
use Rattle.scope_ops.specs.CombineRefusals.{combine_count, combine_messages}
use Rattle.scope_ops.specs.Scratch.{AreWithinArrays}

-- the plan is longer by so many operations, which send so many messages of so many words together. In each state of the plan before they do what f does, and they need no more of a rank's accumulator than its arrays have words
pub record IsMade (v : ShapesView) (before after : PlanView RankOp) (f : GridState → GridState) (ops messages words : ℕ) : Type 0 where
  pub appends : Appends v before after f
  pub grows : Grows before after ops messages words
  pub scratch : AreWithinArrays v before.steps → AreWithinArrays v after.steps

-- the plan is of the same ranks, and after a refusal it has the same operations
abbrev pub IsKept : Result (Unit {0}) ScopeErr → PlanView RankOp → PlanView RankOp → Type 0
IsKept result before after = (after.ranks ≡ before.ranks) × OnErr result (after.steps ≡ before.steps)

-- no message waits of a pair of two different members of the scope, where the grid has it
abbrev pub IsScopeQuiet : PlanView RankOp → Grid → Scope → Type 0
IsScopeQuiet p g scope = IsScopeOf g scope → IsQuiet p (members g scope)

-- a broadcast is made: an operation for the sender and one for the receiver of each member's message but the source's
abbrev pub IsBroadcastMade : ShapesView → PlanView RankOp → PlanView RankOp → Grid → Scope → Shape → Part → ℕ × ℕ → Spot → Type 0
IsBroadcastMade v before after g scope shape part src rcv =
    let others : ℕ = length (members g scope) - 1 in
    IsMade v before after (broadcast_line (members g scope) (rank_of g src) shape part (part_from rcv part)) (2 * others) others (others * part_count shape part)

-- and its operations are those along the edges of the topology
abbrev pub IsBroadcastAlong : PlanView RankOp → PlanView RankOp → Grid → Scope → Top → Shape → Part → ℕ × ℕ → Spot → Type 0
IsBroadcastAlong before after g scope top shape part src rcv =
    let ranks : List ℕ = members g scope in
    let source : ℕ = or_zero (position_in g scope src) in
    after.steps ≡ before.steps ++ edge_ops ranks source shape part rcv (edges_of top (length ranks) source)

-- a combine is made
abbrev pub IsCombineMade : ShapesView → PlanView RankOp → PlanView RankOp → Grid → Scope → FoldKind → Part → Option (ℕ × ℕ) → Option (ℕ × ℕ) → Type 0
IsCombineMade v before after g scope fold part rc dest =
    let n : ℕ = length (members g scope) in
    IsMade v before after (combine_line g scope dest fold part rc) (combine_count n dest) (combine_messages n dest) (combine_messages n dest * message_words (has_places fold) (part.m * part.n))
