-- The operations of combines and barriers along a route. Members are named by their positions in the scope list.
use Rattle.std.specs.Prelude.{◌≡◌, ◌≢◌, ◌++◌, ℕ, ◌*◌, ◌^◌, ◌<◌, ◌≤◌, true, false, Option, Some, None, List, length, slice_index}
use Rattle.route_plans.specs.PlanSteps.{plan_combine, plan_combine_for_all, plan_barrier}
use Rattle.route_plans.specs.Members.{rank_in}
use Rattle.pack_words.specs.declared.shape.Shape.TheVariants.{Ge}
use Rattle.pack_words.specs.declared.coords.Coords.{Coords}
use Rattle.pack_words.specs.declared.fold_kind.FoldKind.{FoldKind}
use Rattle.pack_words.specs.declared.fold_kind.FoldKind.TheVariants.{Sum, AbsMax, AbsMin}
use Rattle.pack_words.specs.declared.rank_op.RankOp.{RankOp}
use Rattle.pack_words.specs.declared.rank_op.RankOp.TheVariants.{LoadAcc, PutAcc, JoinAcc, GetAcc, StoreAcc, Pulse}
use Rattle.pack_words.specs.Accumulators.{has_places}
use Rattle.pack_words.specs.RankOps.{AreCoords}
use Rattle.msg_core.specs.Plans.{PlanView}
use Rattle.route_tree.specs.declared.top.Top.{Top}
use Rattle.route_tree.specs.declared.top.Top.TheVariants.{H}
use Rattle.proc_grid.specs.Grid.{Grid, or_zero}
use Rattle.proc_grid.specs.Scopes.{members, position_in}
use Rattle.scope_ops.specs.CombineRefusals.{root_place}
use Rattle.route_tree.specs.Parents.{edges_of}
use Rattle.route_tree.specs.Routes.{IsRoute}
use Rattle.scope_ops.specs.declared.gather.Gather.{Gather}
use Rattle.pack_words.specs.Parts.{part_region}
use Rattle.proc_grid.specs.declared.scope.Scope.{Scope}
use Rattle.scope_ops.specs.declared.part.Part.{Part}
use Rattle.scope_ops.specs.declared.relay.Relay.{Relay}
use Rattle.scope_ops.specs.declared.relay.Relay.TheVariants as relay
use Rattle.scope_ops.specs.declared.own.Own.{Own}
use Rattle.scope_ops.specs.declared.own.Own.TheVariants as own
use Rattle.scope_ops.specs.Parts.{cut_of}
use Rattle.scope_ops.specs.Ops.{Fits}
use Rattle.scope_ops.specs.Combines.{corner_part}
use Rattle.pack_words.specs.GridShapes.{ShapesView, shape_of}

-- how many elements a part has
abbrev pub element_count : Part → ℕ
element_count part = part.m * part.n

-- what the start of an edge sends to its peer, and what the end receives
abbrev pub sent_by : Relay → ℕ → RankOp
sent_by (relay.Join len fold) to = PutAcc to len (has_places fold)
sent_by (relay.Spread len fold) to = PutAcc to len (has_places fold)
sent_by relay.Pulse to = Pulse to true

abbrev pub received_by : Relay → ℕ → RankOp
received_by (relay.Join len fold) from = JoinAcc from len fold
received_by (relay.Spread len fold) from = GetAcc from len (has_places fold)
received_by relay.Pulse from = Pulse from false

-- the same for the edges of a scope, whose members have these ranks
abbrev pub relay_send : Relay → (ℕ → ℕ) → ℕ × ℕ → RankOp
relay_send r rank e = sent_by r (rank e.1)

abbrev pub relay_receive : Relay → (ℕ → ℕ) → ℕ × ℕ → RankOp
relay_receive r rank e = received_by r (rank e.0)

-- the number of words of its messages
abbrev pub relay_words : Relay → ℕ
relay_words (relay.Join len Sum) = len
relay_words (relay.Join len AbsMax) = 2 * len
relay_words (relay.Join len AbsMin) = 2 * len
relay_words (relay.Spread len Sum) = len
relay_words (relay.Spread len AbsMax) = 2 * len
relay_words (relay.Spread len AbsMin) = 2 * len
relay_words relay.Pulse = 0

-- what a member does by itself: it loads the elements of its part with its position, or stores them
abbrev pub own_op : Own → Part → ℕ → RankOp
own_op own.Load part p = LoadAcc part.array (part_region (cut_of Ge part) part.i part.j) p
own_op (own.Store coords) part p = StoreAcc part.array (part_region (cut_of Ge part) part.i part.j) coords

-- how the positions of a scope stand for rows and columns, where RA and CA are asked for
abbrev pub coords_of : Scope → ℕ → Option (ℕ × ℕ) → Option Coords
coords_of scope npcol None = None
coords_of scope npcol (Some rc) = Some (record { ra = rc.0; ca = rc.1; scope = scope; npcol = npcol })

-- the operations of a combine to one destination, and of one to all
abbrev pub combine_ops : List ℕ → ℕ → List (ℕ × ℕ) → FoldKind → Part → Option Coords → List (ℕ × RankOp)
combine_ops members root edges fold part coords =
    let join : Relay = relay.Join (element_count part) fold in
    plan_combine (rank_in members) (own_op own.Load part) (relay_send join (rank_in members)) (relay_receive join (rank_in members)) (own_op (own.Store coords) part) (length members) root edges

abbrev pub combine_for_all_ops : List ℕ → List (ℕ × ℕ) → FoldKind → Part → Option Coords → List (ℕ × RankOp)
combine_for_all_ops members edges fold part coords =
    let join : Relay = relay.Join (element_count part) fold in
    let spread : Relay = relay.Spread (element_count part) fold in
    plan_combine_for_all (rank_in members) (own_op own.Load part) (relay_send join (rank_in members)) (relay_receive join (rank_in members))
    (relay_send spread (rank_in members)) (relay_receive spread (rank_in members)) (own_op (own.Store coords) part) (length members) edges

-- and of a barrier
abbrev pub barrier_ops : List ℕ → List (ℕ × ℕ) → List (ℕ × RankOp)
barrier_ops members edges = plan_barrier (rank_in members) (relay_send relay.Pulse (rank_in members)) (relay_receive relay.Pulse (rank_in members)) edges

-- at most 2^26 elements
abbrev pub IsGoodRelay : Relay → Type 0
IsGoodRelay (relay.Join len fold) = len ≤ 2 ^ 26
IsGoodRelay (relay.Spread len fold) = len ≤ 2 ^ 26
IsGoodRelay relay.Pulse = Unit {0}

-- the part fits every member
pub record AllFitPart (v : ShapesView) (members : List ℕ) (part : Part) : Type 0 where
  pub array : part.array < v.count
  pub each : (k : ℕ) → k < length members → Fits (shape_of v (slice_index members k) part.array) part

-- the corners of RA and CA fit every member, and the three arrays differ
pub record RcFits (v : ShapesView) (members : List ℕ) (part : Part) (rc : ℕ × ℕ) : Type 0 where
  pub rows : AllFitPart v members (corner_part rc.0 part)
  pub columns : AllFitPart v members (corner_part rc.1 part)
  pub not_rows : part.array ≢ rc.0
  pub not_columns : part.array ≢ rc.1
  pub apart : rc.0 ≢ rc.1

abbrev pub RcFit : ShapesView → List ℕ → Part → Option (ℕ × ℕ) → Type 0
RcFit v members part None = Unit {0}
RcFit v members part (Some rc) = RcFits v members part rc

-- RA and CA are arrays of the shapes
abbrev pub AreThere : ShapesView → Part → Option (ℕ × ℕ) → Type 0
AreThere v part None = part.array < v.count
AreThere v part (Some rc) = (part.array < v.count) × (rc.0 < v.count) × (rc.1 < v.count)

-- a part that can be loaded and stored: it begins at a row and a column that are counted from 1, and has at most 2^26 elements
pub record IsLoadable (part : Part) : Type 0 where
  pub row : 1 ≤ part.i
  pub column : 1 ≤ part.j
  pub most : element_count part ≤ 2 ^ 26

-- where places are asked for, the grid has a column
abbrev pub IsGoodOwn : Own → Part → Type 0
IsGoodOwn own.Load part = IsLoadable part
IsGoodOwn (own.Store coords) part = IsLoadable part × AreCoords coords

pub record IsGoodGather (gather : Gather) : Type 0 where
  pub part : IsLoadable gather.part
  pub coords : AreCoords gather.coords

-- the operations of a combine to one destination, or to all
abbrev pub gathered_ops : List ℕ → ℕ → List (ℕ × ℕ) → Gather → Option (ℕ × ℕ) → List (ℕ × RankOp)
gathered_ops members root edges gather (Some place) = combine_ops members root edges gather.fold gather.part gather.coords
gathered_ops members root edges gather None = combine_for_all_ops members edges gather.fold gather.part gather.coords

-- they are appended, along the edges of the topology
pub record IsGathered (before after : PlanView RankOp) (top : Top) (members : List ℕ) (root : ℕ) (gather : Gather) (dest : Option (ℕ × ℕ)) : Type 0 where
  pub route : IsRoute (length members) root (edges_of top (length members) root)
  pub steps_are : after.steps ≡ before.steps ++ gathered_ops members root (edges_of top (length members) root) gather dest

-- a sum is asked for without places
abbrev pub AreAskable : FoldKind → Option (ℕ × ℕ) → Type 0
AreAskable fold None = Unit {0}
AreAskable Sum (Some rc) = ⊥
AreAskable AbsMax (Some rc) = Unit {0}
AreAskable AbsMin (Some rc) = Unit {0}

-- a combine's operations are appended, along the edges of the topology from its root: the destination, or the first member where all are destinations
abbrev pub IsAlong : PlanView RankOp → PlanView RankOp → Grid → Scope → Top → FoldKind → Part → Option (ℕ × ℕ) → Option (ℕ × ℕ) → Type 0
IsAlong before after g scope top fold part rc dest =
    let ranks : List ℕ = members g scope in
    let root : ℕ = or_zero (position_in g scope (root_place scope dest)) in
    let gather : Gather = record { fold = fold; part = part; coords = coords_of scope g.npcol rc } in
    after.steps ≡ before.steps ++ gathered_ops ranks root (edges_of top (length ranks) root) gather dest

-- a barrier's operations are appended, along the edges of the hypercube
pub record IsPulsed (before after : PlanView RankOp) (ranks : List ℕ) : Type 0 where
  pub route : IsRoute (length ranks) 0 (edges_of H (length ranks) 0)
  pub steps_are : after.steps ≡ before.steps ++ barrier_ops ranks (edges_of H (length ranks) 0)
