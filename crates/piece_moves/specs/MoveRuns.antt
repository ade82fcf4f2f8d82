-- A planned move of pieces, and what it leaves.
use Rattle.std.specs.Prelude.{◌≡◌, List, length, map}
use Rattle.msg_core.specs.Plans.{PlanView}
use Rattle.descriptor.specs.declared.moves.Moved.{Moved}
use Rattle.pack_words.specs.declared.rank_op.RankOp.{RankOp}
use Rattle.pack_words.specs.RankOps.{RankState}
use Rattle.pack_words.specs.GridState.{arrays_held}
use Rattle.plan_runs.specs.PlanRuns.{CanRun, nodes_after}
use Rattle.piece_grammar.specs.Head.{Piece}
use Rattle.piece_moves.specs.Distribution.{Distribution}
use Rattle.piece_moves.specs.PieceMove.{first_of, ranks_for, state_after}
use Rattle.piece_moves.specs.Sizes.{HoldTwo}
use Rattle.piece_moves.specs.Numbers.{numbers_for}

-- The memories can do the plan, whose run leaves the arrays of the plain move; beside them stand the move's numbers.
pub record IsPlanned (ps : List Piece) (d : Distribution) (plan : PlanView RankOp) (nodes : List RankState) (numbers : Moved) : Type 0 where
  pub can_run : CanRun plan nodes
  pub arrays : map arrays_held (nodes_after plan.steps nodes) ≡ (state_after ps d).arrays
  pub numbers_are : numbers ≡ numbers_for ps d

-- The memories hold the arrays of the plain move, two on each rank.
pub record AreMoved (ps : List Piece) (d : Distribution) (numbers : Moved) (nodes : List RankState) : Type 0 where
  pub arrays : map arrays_held nodes ≡ (state_after ps d).arrays
  pub two : HoldTwo nodes
  pub ranks : length nodes ≡ ranks_for (first_of ps) d
  pub numbers_are : numbers ≡ numbers_for ps d
