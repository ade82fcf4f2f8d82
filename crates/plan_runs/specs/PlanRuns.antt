-- Plans of rank operations that memories can do, and what these are afterwards.
use Rattle.std.specs.Prelude.{◌≡◌, ℕ, ◌≤◌, ◌^◌, List, length}
use Rattle.msg_core.specs.Plans.{PlanView, AllCan, word_count}
use Rattle.msg_core.specs.Stages.{end_nodes}
use Rattle.pack_words.specs.declared.rank_op.RankOp.{RankOp}
use Rattle.pack_words.specs.RankOps.{RankState}
use Rattle.pack_words.specs.GridState.{rank_steps, rank_nodes}

-- there is one memory for each rank, each can do its operations, and the messages have at most 2^26 words
pub record CanRun (plan : PlanView RankOp) (nodes : List RankState) : Type 0 where
  pub ranks : length nodes ≡ plan.ranks
  pub can : AllCan rank_nodes nodes plan.steps
  pub words : word_count rank_steps plan.steps ≤ 2 ^ 26

-- the memories after the operations in their order
abbrev pub nodes_after : List (ℕ × RankOp) → List RankState → List RankState
nodes_after steps nodes = end_nodes rank_steps rank_nodes steps nodes
