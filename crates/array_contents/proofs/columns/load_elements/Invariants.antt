use Rattle.std.proofs.Common.{◌≡◌, length}
use Rattle.std.specs.Prelude.{Some}
use Rattle.array_contents.specs.Passes.{from_here}
use Rattle.array_contents.specs.Columns.{loaded_word}
use Rattle.array_contents.proofs.columns.load_elements.Given as goal

abbrev pub invariant-loop-k : goal.invariant-loop-k
invariant-loop-k l = record {
  done : from_here l.k (loaded_word l.values l.height l.rows (Some l.j)) l.words ≡ from_here 0 (loaded_word l.values l.height l.rows (Some l.j)) l.fn.words;
  long : length l.words ≡ length l.fn.words;
}
