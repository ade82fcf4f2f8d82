-- A move appended or refused, in a plan of moves.
use Rattle.std.specs.Prelude.{◌≡◌, ℕ, Result, Ok, Err, IfOk, OnOk, OnErr, List, [], length}
use Rattle.std.proofs.Common.{sym, ap, ◌∙◌, subst, refl}
use Rattle.msg_core.specs.Plans.{PlanView, waiting_lens, lens_of, no_lens, AllCan}
use Rattle.proc_grid.specs.Grid.{Grid}
use Rattle.descriptor.specs.declared.moves.MrArgs.{MrArgs}
use Rattle.descriptor.specs.declared.moves.Moved.{Moved}
use Rattle.descriptor.specs.declared.moves.MrErr.{MrErr}
use Rattle.pack_words.specs.declared.shape.Shape.{Shape}
use Rattle.pack_words.specs.declared.rank_op.RankOp.{RankOp}
use Rattle.pack_words.specs.GridState.{GridState, rank_steps, rank_nodes, scratch_needed, arrays_held}
use Rattle.pack_words.specs.GridShapes.{ShapesView, HasShapes}
use Rattle.pack_words.specs.GridPlans.{PlanMeans, first_grid}
use Rattle.pack_words.proofs.Kept.{plan_begins, plan_goes_on, plan_runs}
use Rattle.mr2d.specs.Moves.{plain_move}
use Rattle.mr2d.specs.Calls.{move_of, IsMoved, WaitsStay}
use Rattle.std.proofs.lemmas.List.{length-map}
use Rattle.pack_words.specs.RankOps.{RankState}
use Rattle.move_tests.specs.MovePlans.{IsMovePlan}
use Rattle.pack_words.proofs.Measures.{no_scratch}

-- the empty plan
pub none_yet : (v : ShapesView) (p : PlanView RankOp) → v.ranks ≡ p.ranks → p.steps ≡ [] → IsMovePlan v p
none_yet v p r e = record {
  ranks_are = r;
  meaning = λ s. s;
  means = plan_begins v p e;
  quiet = λ from to. ap (λ (xs : List (ℕ × RankOp)). lens_of rank_steps xs no_lens from to) e;
  scratch = λ rank. ap (scratch_needed rank) e;
}

pub fresh : {E : Type 0} (v : ShapesView) (n : ℕ) (r : Result (PlanView RankOp) E) → n ≡ v.ranks → IfOk r (λ p. (p.ranks ≡ n) × (p.steps ≡ [])) → IfOk r (λ p. IsMovePlan v p)
fresh v n (Ok p) e h = none_yet v p (sym e ∙ sym h.0) h.1
fresh v n (Err x) e h = tt

-- the same operations
same_steps : (v : ShapesView) (p q : PlanView RankOp) → q.steps ≡ p.steps → q.ranks ≡ p.ranks → IsMovePlan v p → IsMovePlan v q
same_steps v p q e r h = record {
  ranks_are = h.ranks_are ∙ sym r;
  meaning = h.meaning;
  means = means_more;
  quiet = λ from to. ap (λ (xs : List (ℕ × RankOp)). lens_of rank_steps xs no_lens from to) e ∙ h.quiet from to;
  scratch = λ rank. ap (scratch_needed rank) e ∙ h.scratch rank;
}
  where
    means_more : PlanMeans v q h.meaning
    means_more = subst (λ (xs : List (ℕ × RankOp)). PlanMeans v (record q { steps = xs }) h.meaning) (sym e) (record { means = h.means.means })

pub after_move : (held : List Grid) (v : ShapesView) (shape : Shape) (args : MrArgs) (p q : PlanView RankOp) (result : Result Moved MrErr) → IfOk result (λ moved. IsMoved held v shape args p q moved) → OnOk result (WaitsStay p q) → OnErr result (q.steps ≡ p.steps) → q.ranks ≡ p.ranks → IsMovePlan v p → IsMovePlan v q
after_move held v shape args p q (Ok moved) done waits refused ranks h = record {
  ranks_are = h.ranks_are ∙ sym ranks;
  meaning = λ s. plain_move (move_of shape args done.a done.b) (h.meaning s);
  means = plan_goes_on v p q h.meaning (plain_move (move_of shape args done.a done.b)) h.means done.appended.appends;
  quiet = λ from to. waits from to ∙ h.quiet from to;
  scratch = λ rank. done.appended.scratch rank ∙ h.scratch rank;
}
after_move held v shape args p q (Err e) done waits refused ranks h = same_steps v p q refused ranks h

-- as many memories as ranks
pub nodes_counted : (v : ShapesView) (p : PlanView RankOp) (nodes : List RankState) → HasShapes v (first_grid nodes) → IsMovePlan v p → length nodes ≡ p.ranks
nodes_counted v p nodes h plan = sym (length-map nodes arrays_held) ∙ h.ranks_are ∙ plan.ranks_are

-- they can do the plan
pub nodes_can : (v : ShapesView) (p : PlanView RankOp) (nodes : List RankState) → HasShapes v (first_grid nodes) → IsMovePlan v p → AllCan rank_nodes nodes p.steps
nodes_can v p nodes h plan = (plan_runs v p plan.meaning nodes plan.means h (no_scratch p.steps nodes plan.scratch)).0
