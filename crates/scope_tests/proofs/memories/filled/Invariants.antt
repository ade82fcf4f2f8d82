use Rattle.std.proofs.Common.{◌≡◌}
use Rattle.pack_words.specs.LocalCells.{IsLocalCells}
use Rattle.scope_tests.proofs.memories.filled.Given as goal

abbrev pub invariant-loop-column : goal.invariant-loop-column
invariant-loop-column l = record {
  lead : l.array.lld ≡ l.fn.size.0;
  columns : l.array.cols ≡ l.fn.size.1;
  array : IsLocalCells l.array;
}
