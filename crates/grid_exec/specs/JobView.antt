-- What contracts see of a job.
use Rattle.std.specs.Prelude.{ℕ, List, map}
use Rattle.msg_core.specs.Plans.{PlanView}
use Rattle.pack_words.specs.declared.rank_op.RankOp.{RankOp}
use Rattle.pack_words.specs.RankOps.{RankState}
use Rattle.pack_words.specs.LocalCells.{LocalCells}
use Rattle.pack_words.specs.GridState.{arrays_held}
use Rattle.plan_runs.specs.PlanRuns.{CanRun, nodes_after}
use Rattle.program_results.specs.EndsView.{EndsView}
use Rattle.program_results.specs.Standing.{Fits}

-- the plan, the memories of the ranks before it, and the results of the program
pub record JobView : Type 0 where
  pub plan : PlanView RankOp
  pub nodes : List RankState
  pub ends : EndsView

-- the arrays of all ranks after the plan in its own order
abbrev pub arrays_after : JobView → List (List LocalCells)
arrays_after j = map arrays_held (nodes_after j.plan.steps j.nodes)

-- the plan can be run, and the results fit the arrays after it
pub record IsReady (j : JobView) : Type 0 where
  pub can : CanRun j.plan j.nodes
  pub fits : Fits j.ends (arrays_after j)
