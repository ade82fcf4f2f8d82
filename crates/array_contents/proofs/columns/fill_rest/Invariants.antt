use Rattle.std.proofs.Common.{◌≡◌, length}
use Rattle.array_contents.specs.Passes.{from_here}
use Rattle.array_contents.specs.Columns.{padding_word}
use Rattle.array_contents.proofs.columns.fill_rest.Given as goal

abbrev pub invariant-loop-k : goal.invariant-loop-k
invariant-loop-k l = record {
  done : from_here l.k (padding_word l.padding) l.words ≡ from_here l.start (padding_word l.padding) l.fn.words;
  long : length l.words ≡ length l.fn.words;
}
