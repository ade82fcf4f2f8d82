use Rattle.std.proofs.Common.{◌≡◌, ◌+◌, ◌∷◌, List, drop, refl, sym, subst, ◌∙◌}
use Rattle.grid_lang.specs.declared.line.Numbered.{Numbered}
use Rattle.grid_exec.specs.Sections.{AreLater, AreKnown}
use Rattle.grid_exec.specs.Planning.{IsUnderWay}
use Rattle.grid_exec.proofs.LaterLines.{first_known, rest_known}
use Rattle.grid_exec.proofs.PlanSteps.{next_line, begins, on_the_way, stopped_there}
use Rattle.grid_exec.proofs.exchanges.plan_exchanges.Goals as goal

pub loop-l-init : goal.loop-l-init
loop-l-init c = (refl, c.requires.known, c.requires.later, λ state is. begins c.args.declared.now c.args.plan.now state c.args.lines.now is)

pub returns-in-Err-clause-done : goal.returns-in-Err-clause-done
returns-in-Err-clause-done c = λ state is.
    let at = next_line c.args.lines.now c.loop-l.l-index c.l-item.result c.l-item.is c.loop-l-test.true in
    let w = subst (λ (ls : List Numbered). IsUnderWay c.args.declared.now c.args.plan.now c.loop-l.plan state c.args.lines.now ls) at (c.loop-l.invariant.3 state is) in
    stopped_there c.args.declared.now c.args.plan.now c.loop-l.plan c.plan_line.new.plan state c.args.lines.now (drop (c.loop-l.l-index + 1) c.args.lines.now) c.l-item.result c.in-Err.halt c.stopped.result w
    (c.in-Err.ensures.done w.state w.of_plan) c.stopped.ensures

pub loop-l-preserved : goal.loop-l-preserved
loop-l-preserved c =
    let at = next_line c.args.lines.now c.loop-l.l-index c.l-item.result c.l-item.is c.loop-l-test.true in
    let rest : List Numbered = drop (c.loop-l.l-index + 1) c.args.lines.now in
    let known = subst (λ (ls : List Numbered). AreKnown c.args.declared.now ls) at c.loop-l.invariant.1 in
    let later = subst AreLater at c.loop-l.invariant.2 in (
      c.in-Ok.ensures.ranks ∙ c.loop-l.invariant.0,
      rest_known c.args.declared.now c.l-item.result rest known later.0,
      later.1,
      λ state is.
          let w = subst (λ (ls : List Numbered). IsUnderWay c.args.declared.now c.args.plan.now c.loop-l.plan state c.args.lines.now ls) at (c.loop-l.invariant.3 state is) in
          on_the_way c.args.declared.now c.args.plan.now c.loop-l.plan c.plan_line.new.plan state c.args.lines.now rest c.l-item.result c.in-Ok.field-0 w (c.in-Ok.ensures.done w.state w.of_plan),
    )
