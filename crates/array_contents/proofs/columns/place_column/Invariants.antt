use Rattle.std.proofs.Common.{◌≡◌, length}
use Rattle.array_contents.specs.Passes.{from_here}
use Rattle.array_contents.specs.Columns.{placed_word}
use Rattle.array_contents.proofs.columns.place_column.Given as goal

abbrev pub invariant-loop-i : goal.invariant-loop-i
invariant-loop-i l = record {
  done : from_here l.i (placed_word l.filling l.rank l.j) l.words ≡ from_here 0 (placed_word l.filling l.rank l.j) l.fn.words;
  long : length l.words ≡ length l.fn.words;
}
