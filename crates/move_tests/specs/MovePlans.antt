-- Plans of moves.
use Rattle.std.specs.Prelude.{◌≡◌, ℕ, []}
use Rattle.msg_core.specs.Plans.{PlanView, waiting_lens}
use Rattle.pack_words.specs.declared.rank_op.RankOp.{RankOp}
use Rattle.pack_words.specs.GridState.{GridState, rank_steps, scratch_needed}
use Rattle.pack_words.specs.GridShapes.{ShapesView}
use Rattle.pack_words.specs.GridPlans.{PlanMeans}
use Rattle.move_tests.specs.declared.trial.Trial.{Trial}

-- the plan has a meaning, it leaves no message, and it uses no accumulator
pub record IsMovePlan (v : ShapesView) (p : PlanView RankOp) : Type 0 where
  pub ranks_are : v.ranks ≡ p.ranks
  pub meaning : GridState → GridState
  pub means : PlanMeans v p meaning
  pub quiet : (from to : ℕ) → waiting_lens rank_steps p from to ≡ []
  pub scratch : (rank : ℕ) → scratch_needed rank p.steps ≡ 0

-- a trial's plan is one of moves between its arrays, whose number is counted
pub record IsTrial (t : Trial) : Type 0 where
  pub planned : IsMovePlan t.shapes t.plan
  pub counted : t.count ≡ t.shapes.count
