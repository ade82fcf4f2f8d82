use Rattle.std.proofs.Common.{◌≡◌, ◌+◌, ◌∙◌, drop, List, refl, subst}
use Rattle.grid_lang.specs.declared.line.Numbered.{Numbered}
use Rattle.line_plans.specs.Standing.{state_of}
use Rattle.grid_exec.specs.Checking.{IsOnTheWay}
use Rattle.grid_exec.proofs.PlanSteps.{next_line}
use Rattle.grid_exec.proofs.FrontLines.{is_front, later_now, declares_on}
use Rattle.grid_exec.proofs.CheckSteps.{check_on, check_stopped}
use Rattle.grid_exec.proofs.check.check_front.Goals as goal

pub loop-k-init : goal.loop-k-init
loop-k-init c = (c.requires.known, refl, λ state is exact. record { state = state; of_plan = is; exact = exact; same = refl })

pub returns-then-is_later-clause-later : goal.returns-then-is_later-clause-later
returns-then-is_later-clause-later c = later_now c.loop-k.declared c.args.lines.now c.loop-k.k c.index-lines-k.result c.index-lines-k.is c.loop-k-test.true c.loop-k.invariant.0 (c.is_later.ensures.yes c.if-is_later.true)

pub returns-in-Err-clause-done : goal.returns-in-Err-clause-done
returns-in-Err-clause-done c = λ state is exact.
    let at = next_line c.args.lines.now c.loop-k.k c.index-lines-k.result c.index-lines-k.is c.loop-k-test.true in
    let w = subst (λ (ls : List Numbered). IsOnTheWay c.loop-k.declared c.args.plan.now (state_of c.args.declared c.args.plan.now state) c.args.lines.now ls) at (c.loop-k.invariant.2 state is exact) in
    check_stopped c.loop-k.declared c.args.plan.now (state_of c.args.declared c.args.plan.now state) c.args.lines.now (drop (c.loop-k.k + 1) c.args.lines.now) c.index-lines-k.result c.in-Err.halt c.stopped.result w (c.in-Err.ensures.done w.state w.of_plan w.exact) c.stopped.ensures

pub loop-k-preserved : goal.loop-k-preserved
loop-k-preserved c =
    let is = c.index-lines-k.is in
    let lt = c.loop-k-test.true in
    let front = is_front c.loop-k.declared c.args.lines.now c.loop-k.k c.index-lines-k.result is lt c.loop-k.invariant.0 (c.is_later.ensures.no c.if-is_later.false) in (
      declares_on c.loop-k.declared c.in-Ok.next c.args.lines.now c.loop-k.k c.index-lines-k.result is lt c.loop-k.invariant.0 front c.in-Ok.ensures.known,
      c.in-Ok.ensures.ranks ∙ c.loop-k.invariant.1,
      λ state of exact.
          let at = next_line c.args.lines.now c.loop-k.k c.index-lines-k.result is lt in
          let w = subst (λ (ls : List Numbered). IsOnTheWay c.loop-k.declared c.args.plan.now (state_of c.args.declared c.args.plan.now state) c.args.lines.now ls) at (c.loop-k.invariant.2 state of exact) in
          check_on c.loop-k.declared c.in-Ok.next c.args.plan.now (state_of c.args.declared c.args.plan.now state) c.args.lines.now (drop (c.loop-k.k + 1) c.args.lines.now) c.index-lines-k.result w (c.in-Ok.ensures.done w.state w.of_plan w.exact),
    )
