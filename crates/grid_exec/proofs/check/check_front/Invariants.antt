use Rattle.std.proofs.Common.{◌≡◌, drop}
use Rattle.pack_words.specs.GridState.{GridState}
use Rattle.pack_words.specs.GridPlans.{IsOf}
use Rattle.line_plans.specs.Exact.{IsExact}
use Rattle.line_plans.specs.Standing.{state_of}
use Rattle.grid_exec.specs.Sections.{MayDeclare}
use Rattle.grid_exec.specs.Checking.{IsOnTheWay}
use Rattle.grid_exec.proofs.check.check_front.Given as goal

abbrev pub invariant-loop-k : goal.invariant-loop-k
invariant-loop-k x = MayDeclare x.declared (drop x.k x.lines) × (x.declared.shapes.ranks ≡ x.fn.declared.shapes.ranks) × ((state : GridState) → IsOf x.fn.declared.shapes x.plan state → IsExact x.fn.declared.shapes state → IsOnTheWay x.declared x.plan (state_of x.fn.declared x.plan state) x.lines (drop x.k x.lines))
