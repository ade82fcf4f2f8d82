use Rattle.std.proofs.Common.{◌≡◌, ◌+◌, ◌∙◌}
use Rattle.grid_lang.specs.Facts.{Known}
use Rattle.grid_exec.specs.Reading.{standing}
use Rattle.grid_exec.proofs.FrontLines.{is_front, later_now, declares_on, front_next, reached_next, reads_both, counts_both, filled_stopped}
use Rattle.grid_exec.proofs.front.fill_lines.Goals as goal

pub returns-then-is_later-clause-later : goal.returns-then-is_later-clause-later
returns-then-is_later-clause-later g c = later_now c.loop-k.held.declared c.args.lines.now c.loop-k.k c.index-lines-k.result c.index-lines-k.is c.loop-k-test.true c.loop-k.invariant.0 (c.is_later.ensures.yes c.if-is_later.true)

pub returns-in-Err-clause-done : goal.returns-in-Err-clause-done
returns-in-Err-clause-done g c =
    filled_stopped (g.S.Store.state c.args.store.now) (standing c.args.held c.args.plan.now) (standing c.loop-k.held c.args.plan.now) c.args.plan.now c.args.lines.now c.loop-k.k c.index-lines-k.result c.in-Err.e c.index-lines-k.is c.loop-k-test.true c.loop-k.invariant.3
    (c.in-Err.ensures.done (g.S.Store.state c.args.store.now) c.loop-k.invariant.4)

pub loop-k-preserved : goal.loop-k-preserved
loop-k-preserved g c =
    let is = c.index-lines-k.is in
    let lt = c.loop-k-test.true in
    let front = is_front c.loop-k.held.declared c.args.lines.now c.loop-k.k c.index-lines-k.result is lt c.loop-k.invariant.0 (c.is_later.ensures.no c.if-is_later.false) in (
      declares_on c.loop-k.held.declared c.in-Ok.next.declared c.args.lines.now c.loop-k.k c.index-lines-k.result is lt c.loop-k.invariant.0 front c.in-Ok.ensures.known,
      front_next c.args.lines.now c.loop-k.k c.index-lines-k.result is lt c.loop-k.invariant.1 front,
      c.in-Ok.ensures.ranks ∙ c.loop-k.invariant.2,
      reached_next (g.S.Store.state c.args.store.now) (standing c.args.held c.args.plan.now) (standing c.loop-k.held c.args.plan.now) (standing c.in-Ok.next c.args.plan.now) c.args.lines.now c.loop-k.k c.index-lines-k.result is lt c.loop-k.invariant.3
          (c.in-Ok.ensures.done (g.S.Store.state c.args.store.now) c.loop-k.invariant.4),
      reads_both (g.S.Store.state c.args.store.now) (g.S.Store.state c.loop-k.store) (g.S.Store.state c.fill_line.new.store) c.loop-k.invariant.4 c.in-Ok.ensures.same,
      counts_both (g.S.Store.state c.args.store.now) (g.S.Store.state c.loop-k.store) (g.S.Store.state c.fill_line.new.store) c.loop-k.invariant.5 c.in-Ok.ensures.cause,
    )
