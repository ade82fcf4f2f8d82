use Rattle.std.proofs.Common.{◌≡◌, drop}
use Rattle.pack_words.specs.GridState.{GridState}
use Rattle.pack_words.specs.GridPlans.{IsOf}
use Rattle.grid_exec.specs.Sections.{AreLater, AreKnown}
use Rattle.grid_exec.specs.Planning.{IsUnderWay}
use Rattle.grid_exec.proofs.exchanges.plan_exchanges.Given as goal

abbrev pub invariant-loop-l : goal.invariant-loop-l
invariant-loop-l x = (x.plan.ranks ≡ x.fn.plan.ranks) × AreKnown x.declared (drop x.l-index x.lines) × AreLater (drop x.l-index x.lines) × ((state : GridState) → IsOf x.declared.shapes x.fn.plan state → IsUnderWay x.declared x.fn.plan x.plan state x.lines (drop x.l-index x.lines))
