use Rattle.std.proofs.Common.{◌≡◌, ◌≤◌}
use Rattle.scope_tests.proofs.trial.shapes_of.Given as goal

abbrev pub invariant-loop-size : goal.invariant-loop-size
invariant-loop-size l = record {
  ranks : l.shapes.ranks ≡ l.ranks;
  count : l.count ≡ l.shapes.count;
  few : l.count ≤ 100;
}
