use Rattle.std.proofs.Common.{◌≡◌, ◌*◌, length}
use Rattle.pack_words.specs.LocalCells.{IsLocalCells}
use Rattle.array_contents.specs.LocalWords.{place_word}
use Rattle.array_contents.specs.Passes.{from_here}
use Rattle.array_contents.proofs.cells.set_columns.Given as goal

abbrev pub invariant-loop-j : goal.invariant-loop-j
invariant-loop-j l = record {
  done : from_here (l.j * l.fn.array.lld) (place_word l.by l.fn.array.lld) l.array.words ≡ from_here 0 (place_word l.by l.fn.array.lld) l.fn.array.words;
  lead : l.array.lld ≡ l.fn.array.lld;
  columns : l.array.cols ≡ l.fn.array.cols;
  limits : IsLocalCells l.array;
  long : length l.words ≡ l.fn.array.lld;
}
