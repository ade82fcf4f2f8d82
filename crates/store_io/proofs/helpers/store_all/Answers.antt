use Rattle.std.proofs.Common.{◌+◌, IsTrue, arith}
use Rattle.std.proofs.lemmas.Grind.{common_steps}
use Rattle.store_io.proofs.FilesLemmas.{writes_more, writes_nothing}
use Rattle.store_io.proofs.helpers.store_all.Goals as goal

pub loop-done-init : goal.loop-done-init
loop-done-init g c = grind (arith, common_steps, writes_nothing (g.S.Store.state c.args.store.now))

pub returns-in-Err-clause-failed : goal.returns-in-Err-clause-failed
returns-in-Err-clause-failed g c = λ h.
    let told : IsTrue (g.S.Store.state c.loop-done.store).told = rw c.loop-done.invariant.told h in
    let more = c.in-Err.ensures.failed told in
    (c.loop-done.done + more.0, writes_more _ _ _ _ _ _ (c.loop-done.invariant.files h) c.loop-done.invariant.output more.1)

pub loop-done-preserved : goal.loop-done-preserved
loop-done-preserved g c = record {
  within = grind (arith, common_steps);
  told = grind (arith, common_steps);
  files = λ h.
      let told : IsTrue (g.S.Store.state c.loop-done.store).told = rw c.loop-done.invariant.told h in
      writes_more _ _ _ _ _ _ (c.loop-done.invariant.files h) c.loop-done.invariant.output (c.in-Ok.ensures.written told);
  left = grind (arith, common_steps);
  reading = grind (arith, common_steps);
  output = grind (arith, common_steps);
  faults = grind (arith, common_steps);
  misses = grind (arith, common_steps);
}
