-- A plan after one call and after two, and one of the same ranks.
use Rattle.std.specs.Prelude.{◌≡◌, ◌<◌, [], slice_index}
use Rattle.std.proofs.Common.{sym, ◌∙◌, subst}
use Rattle.msg_core.specs.Plans.{PlanView}
use Rattle.pack_words.specs.declared.rank_op.RankOp.{RankOp}
use Rattle.pack_words.specs.GridState.{GridState}
use Rattle.pack_words.specs.GridShapes.{ShapesView}
use Rattle.pack_words.specs.GridPlans.{Appends, PlanMeans}
use Rattle.pack_words.proofs.Kept.{plan_begins, plan_goes_on}
use Rattle.proc_grid.specs.Grid.{Grid}
use Rattle.scope_ops.specs.Refusals.{AreOfOneWorld}

-- a plan of the same ranks is of the same world
pub still : (v : ShapesView) (p q : PlanView RankOp) (g : Grid) → AreOfOneWorld p v g → q.ranks ≡ p.ranks → AreOfOneWorld q v g
still v p q g is same = record { shapes_ranks = is.shapes_ranks ∙ sym same; grid_ranks = λ k lt. subst (λ n. slice_index g.ranks k < n) (sym same) (is.grid_ranks k lt) }

-- the plan of one call, and of two
pub after_one : (v : ShapesView) (p q : PlanView RankOp) (f : GridState → GridState) → p.steps ≡ [] → Appends v p q f → (g : GridState → GridState) × PlanMeans v q g
after_one v p q f none a = ((λ s. f s), plan_goes_on v p q (λ s. s) f (plan_begins v p none) a)

pub after_two : (v : ShapesView) (p q r : PlanView RankOp) (f g : GridState → GridState) → p.steps ≡ [] → Appends v p q f → Appends v q r g → (h : GridState → GridState) × PlanMeans v r h
after_two v p q r f g none a b = ((λ s. g (f s)), plan_goes_on v q r f g (plan_goes_on v p q (λ s. s) f (plan_begins v p none) a) b)
