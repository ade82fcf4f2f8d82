-- A declaration with its array.
use Rattle.std.proofs.Common.{◌≡◌, ℕ, List, [], Option, Some, None, Result, Ok, Err, refl, sym, ap, subst, ◌∙◌}
use Rattle.msg_core.specs.Plans.{PlanView}
use Rattle.pack_words.specs.declared.rank_op.RankOp.{RankOp}
use Rattle.pack_words.specs.LocalCells.{LocalCells}
use Rattle.pack_words.specs.GridState.{GridState}
use Rattle.pack_words.specs.GridShapes.{ShapesView, HasShapes}
use Rattle.program_meaning.specs.declared.fault.ExecFault.{ExecFault}
use Rattle.program_meaning.specs.ProgramState.{ProgramState}
use Rattle.line_plans.specs.declared.declared.Declared.{Declared}
use Rattle.line_plans.specs.declared.grown.Grown.{Grown}
use Rattle.line_plans.specs.declared.halt.Halt.{Halt}
use Rattle.line_plans.specs.declared.halt.Halt.TheVariants.{Fault, NoMemory}
use Rattle.line_plans.specs.Exact.{IsExact}
use Rattle.line_plans.specs.Standing.{state_of, IsFresh, IsGrown, grown_by, sizes_in}
use Rattle.grid_exec.specs.declared.held.Held.{Held}
use Rattle.grid_exec.specs.Holding.{resting, HoldsArrays}
use Rattle.grid_exec.specs.Reading.{standing, IsHeld}

module _ (p : PlanView RankOp) (x : Grown) (before after : List (List LocalCells)) (same : resting after ≡ grown_by (sizes_in x.sizes) (resting before)) where
  state_so : (s : ProgramState) → IsFresh x.declared p s → s.state ≡ grown_by (sizes_in x.sizes) (resting before) → s ≡ state_of x.declared p (resting after)
  state_so s fresh grown = fresh.at.state_is ∙ ap (state_of x.declared p) (grown ∙ sym same)

  pub holds_grown : (r : Result ProgramState ExecFault) → IsGrown (Ok x) p (resting before) r → HoldsArrays x.declared.shapes after
  holds_grown (Ok s) h = record {
    shaped = subst (λ (g : GridState). HasShapes x.declared.shapes g) (h.1 ∙ sym same) h.0.at.of_plan.shaped;
    exact = subst (λ (g : GridState). IsExact x.declared.shapes g) (h.1 ∙ sym same) h.0.exact;
  }
  holds_grown (Err f) h = absurd h

  pub held_grown : (h : Held) (r : Result ProgramState ExecFault) → h.declared ≡ x.declared → h.contents ≡ after → IsGrown (Ok x) p (resting before) r → IsHeld (Ok h) p r
  held_grown h (Ok s) d c k = state_so s k.0 k.1 ∙ ap (λ (e : Declared). state_of e p (resting after)) (sym d) ∙ ap (λ (arrays : List (List LocalCells)). state_of h.declared p (resting arrays)) (sym c)
  held_grown h (Err f) d c k = absurd k

pub held_refused : (p : PlanView RankOp) (state : GridState) (halt : Halt) (r : Result ProgramState ExecFault) → IsGrown (Err halt) p state r → IsHeld (Err halt) p r
held_refused p state (Fault f) (Ok s) h = absurd h
held_refused p state (Fault f) (Err e) h = h
held_refused p state NoMemory (Ok s) h = tt
held_refused p state NoMemory (Err e) h = tt
