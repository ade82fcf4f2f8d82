use Rattle.std.proofs.Common.{◌≡◌, ◌+◌, ap, refl, subst, sym}
use Rattle.block_meet.specs.declared.axis.Run.{Run}
use Rattle.block_meet.specs.Runs.{AreRunsFrom}
use Rattle.block_meet.proofs.RunLemmas.{runs_more, run_is, start_after}
use Rattle.block_meet.proofs.rows.meet_rows.Goals as goal

pub loop-start-preserved : goal.loop-start-preserved
loop-start-preserved c =
    let n = c.args.n in
    let a = c.args.a in
    let b = c.args.b in
    let s = c.loop-start.start in
    let r = c.run_at-run.result in
    let begins : r.start ≡ s = ap (λ (x : Run). x.start) c.run_at-run.ensures.run in
    let run = run_is n a b s r c.requires.first.block c.requires.second.block c.loop-start-test.true (c.loop-start.invariant.fresh c.loop-start-test.true) c.run_at-run.ensures.run in
    record {
      within = c.run_at-run.ensures.within;
      fresh = λ h. start_after n a b s r c.requires.first.block c.requires.second.block c.run_at-run.ensures.run h;
      so_far = subst (λ rs. AreRunsFrom n a b 0 (s + r.len) rs) (sym c.in_ok-push.ensures.items) (runs_more n a b 0 s (s + r.len) c.loop-start.runs.items r c.loop-start.invariant.so_far begins run refl);
    }
