use Rattle.std.proofs.Common.{◌≡◌, ◌+◌, length}
use Rattle.pack_words.specs.Packing.{spots}
use Rattle.pack_words.proofs.Touching.{touched_before}
use Rattle.pack_words.proofs.products.count_down.Given as goal

abbrev pub invariant-loop-row : goal.invariant-loop-row
invariant-loop-row l = l.count ≡ l.so_far + length (spots l.cut (touched_before l.by l.rows l.col l.row-index))
