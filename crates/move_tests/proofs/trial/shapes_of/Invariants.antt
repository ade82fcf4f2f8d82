use Rattle.std.proofs.Common.{◌≡◌}
use Rattle.move_tests.proofs.trial.shapes_of.Given as goal

abbrev pub invariant-loop-matrix : goal.invariant-loop-matrix
invariant-loop-matrix l = record {
  ranks : l.shapes.ranks ≡ l.fn.ranks;
  count : l.shapes.count ≡ l.matrix-index;
}
