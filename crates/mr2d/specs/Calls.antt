-- What the calls say: the move that arguments stand for, what is asked of a plan, and what is appended to it.
use Rattle.std.specs.Prelude.{◌≡◌, ℕ, ◌+◌, ◌-◌, ◌*◌, ◌^◌, ◌<◌, ◌≤◌, ◌==◌, ◌||◌, if◌then◌else◌, pos, IsTrue, List, [], length, count_by, Some}
use Rattle.std.specs.List.{AllByRecursion}
use Rattle.msg_core.specs.Plans.{PlanView, Lens, waiting_lens}
use Rattle.proc_grid.specs.Grid.{Grid, IsGrid}
use Rattle.proc_grid.specs.Held.{context_at}
use Rattle.descriptor.specs.Bounds.{part}
use Rattle.descriptor.specs.Good.{layout_of, lld_of, IsGood, IsInside}
use Rattle.descriptor.specs.declared.spread.Spread.{Spread}
use Rattle.descriptor.specs.declared.moves.MrArgs.{MrArgs}
use Rattle.descriptor.specs.declared.moves.Moved.{Moved}
use Rattle.pack_words.specs.declared.shape.Shape.{Shape}
use Rattle.pack_words.specs.declared.shape.Shape.TheVariants.{Tr}
use Rattle.pack_words.specs.declared.uplo.Uplo.TheVariants.{Upper, Lower}
use Rattle.pack_words.specs.declared.diag.Diag.TheVariants.{N, U}
use Rattle.pack_words.specs.declared.rank_op.RankOp.{RankOp}
use Rattle.pack_words.specs.GridState.{GridState, rank_steps, scratch_needed}
use Rattle.pack_words.specs.GridShapes.{ShapesView}
use Rattle.pack_words.specs.GridPlans.{IsOf, Appends, Grows}
use Rattle.block_meet.specs.declared.axis.Run.{Run}
use Rattle.block_meet.specs.Meets.{rectangles, touches}
use Rattle.mr2d.specs.Homes.{SpreadArray, rank_of, HasShape}
use Rattle.mr2d.specs.Moves.{Move, plain_move}
use Rattle.mr2d.specs.Plans.{Rectangles, pairs, operations, AreAllMeets, sends, stays, words_sent}
use Rattle.mr2d.specs.Between.{meets_by, AreRowRuns, AreColumnRuns}
use Rattle.mr2d.specs.Targets.{AreTargets}

-- the array of that number, spread as a descriptor says
abbrev pub spread_array : ℕ → Spread → Grid → SpreadArray
spread_array array s g = record { array = array; grid = g; layout = layout_of s g; llds = lld_of s g }

-- the move of these arguments, between the grids of the two descriptors
abbrev pub move_of : Shape → MrArgs → Grid → Grid → Move
move_of shape args a b = record {
  cut = record { shape = shape; m = part args.m; n = part args.n };
  a = spread_array args.a args.desca a;
  ia = part args.ia - 1;
  ja = part args.ja - 1;
  b = spread_array args.b args.descb b;
  ib = part args.ib - 1;
  jb = part args.jb - 1;
}

-- Arguments that pass their check, between these grids: what is moved lies in both matrices, which are well spread.
pub record IsReady (args : MrArgs) (a b : Grid) : Type 0 where
  pub rows : args.m ≡ pos (part args.m)
  pub columns : args.n ≡ pos (part args.n)
  pub few_rows : part args.m ≤ 2 ^ 24
  pub few_columns : part args.n ≤ 2 ^ 24
  pub grid_a : IsGrid a
  pub grid_b : IsGrid b
  pub good_a : IsGood args.desca a
  pub good_b : IsGood args.descb b
  pub rows_a : IsInside args.ia (part args.m) (part args.desca.desc.m)
  pub columns_a : IsInside args.ja (part args.n) (part args.desca.desc.n)
  pub rows_b : IsInside args.ib (part args.m) (part args.descb.desc.m)
  pub columns_b : IsInside args.jb (part args.n) (part args.descb.desc.n)

-- What is asked where the arguments pass: as many ranks as the plan has, both arrays in the shapes, and no message waits from a
-- rank of A's grid to a rank of B's.
pub record CanPlan (args : MrArgs) (a b : Grid) (v : ShapesView) (ranks : ℕ) (lens : Lens) : Type 0 where
  pub ranks_are : v.ranks ≡ ranks
  pub source : HasShape (spread_array args.a args.desca a) v
  pub target : HasShape (spread_array args.b args.descb b) v
  pub quiet : (p q r t : ℕ) → p < a.nprow → q < a.npcol → r < b.nprow → t < b.npcol → lens (rank_of a p q) (rank_of b r t) ≡ []

-- the same of whatever grids the contexts of the two descriptors have
abbrev pub CanCall : List Grid → MrArgs → ShapesView → PlanView RankOp → Type 0
CanCall held args v before = (a b : Grid) → context_at held args.desca.desc.ctxt ≡ Some a → context_at held args.descb.desc.ctxt ≡ Some b → CanPlan args a b v before.ranks (waiting_lens rank_steps before)

-- doing the plan `after` in order is doing the plan `before` and then the plain move
abbrev pub AppendsMove : List Grid → Shape → MrArgs → ShapesView → PlanView RankOp → PlanView RankOp → Type 0
AppendsMove held shape args v before after = (a b : Grid) → context_at held args.desca.desc.ctxt ≡ Some a → context_at held args.descb.desc.ctxt ≡ Some b → Appends v before after (plain_move (move_of shape args a b))

-- the messages that wait after the plan have the lengths of those before
abbrev pub WaitsStay : PlanView RankOp → PlanView RankOp → Type 0
WaitsStay before after = (from to : ℕ) → waiting_lens rank_steps after from to ≡ waiting_lens rank_steps before from to

-- What stands in the plan after a move, and its numbers.
pub record IsAppended (v : ShapesView) (mv : Move) (before after : PlanView RankOp) (moved : Moved) : Type 0 where
  -- in each state of the plan before, doing what was added is the plain move
  pub appends : Appends v before after (plain_move mv)
  -- each home in B of a selected element is a target of exactly one, and no other place is one
  pub targets : (s : GridState) → IsOf v before s → AreTargets mv s.arrays appends.added
  -- they are one message for each ordered pair of different ranks with a meet, and one copy for each rank with a meet to itself
  pub meets : Rectangles
  pub all : AreAllMeets mv before.ranks meets
  pub touching : (from to : ℕ) → AllByRecursion (λ t. IsTrue (touches mv.cut t)) (meets from to)
  pub added_are : appends.added ≡ operations mv meets before.ranks
  pub messages : moved.messages ≡ count_by (λ p. sends meets p.0 p.1) (pairs before.ranks)
  pub copies : moved.copies ≡ count_by (λ p. stays meets p.0 p.1) (pairs before.ranks)
  -- so at most two operations for each meet
  pub few : moved.messages + moved.copies ≤ moved.meets
  -- so many operations, messages and words more
  pub grows : Grows before after (2 * moved.messages + moved.copies) moved.messages (words_sent mv meets (pairs before.ranks))
  -- which use no accumulator
  pub scratch : (rank : ℕ) → scratch_needed rank after.steps ≡ scratch_needed rank before.steps
  -- and the number of all meets
  pub number : (rs cs : List Run) → AreRowRuns mv rs → AreColumnRuns mv cs → moved.meets ≡ count_by (touches mv.cut) (rectangles rs cs)

-- the same for arguments whose descriptors name contexts that are there
pub record IsMoved (held : List Grid) (v : ShapesView) (shape : Shape) (args : MrArgs) (before after : PlanView RankOp) (moved : Moved) : Type 0 where
  pub a : Grid
  pub b : Grid
  pub a_is : context_at held args.desca.desc.ctxt ≡ Some a
  pub b_is : context_at held args.descb.desc.ctxt ≡ Some b
  pub appended : IsAppended v (move_of shape args a b) before after moved

-- The operations of the move and those of the plan are together more than 2^20.
pub record IsTooLong (held : List Grid) (shape : Shape) (args : MrArgs) (before : PlanView RankOp) : Type 0 where
  pub long : (a b : Grid) → context_at held args.desca.desc.ctxt ≡ Some a → context_at held args.descb.desc.ctxt ≡ Some b → (rs cs : List Run) → AreRowRuns (move_of shape args a b) rs → AreColumnRuns (move_of shape args a b) cs
      → 2 ^ 20 < length before.steps + length (operations (move_of shape args a b) (meets_by (move_of shape args a b).cut a b rs cs) before.ranks)

-- the trapezoid that two letters name, in either case
abbrev pub shape_by : ℕ → ℕ → Shape
shape_by uplo diag = Tr (if uplo == 85 || uplo == 117 then Upper else Lower) (if diag == 78 || diag == 110 then N else U)
