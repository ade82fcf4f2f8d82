use Rattle.std.proofs.Common.{◌≡◌}
use Rattle.pack_words.specs.LocalCells.{IsLocalCells}
use Rattle.scope_tests.proofs.memories.fill_column.Given as goal

abbrev pub invariant-loop-row : goal.invariant-loop-row
invariant-loop-row l = record {
  lead : l.array.lld ≡ l.initial.array.lld;
  columns : l.array.cols ≡ l.initial.array.cols;
  array : IsLocalCells l.array;
}
