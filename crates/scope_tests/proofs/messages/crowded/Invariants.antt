use Rattle.scope_ops.specs.Refusals.{AreOfOneWorld}
use Rattle.scope_tests.proofs.messages.crowded.Given as goal

abbrev pub invariant-loop : goal.invariant-loop
invariant-loop l = AreOfOneWorld l.plan l.fn.trial.shapes l.fn.trial.ctx
