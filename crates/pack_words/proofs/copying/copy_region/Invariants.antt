use Rattle.std.proofs.Common.{◌≡◌}
use Rattle.pack_words.specs.LocalCells.{IsLocalCells}
use Rattle.pack_words.specs.Packing.{IsInArray, words_at, with_words}
use Rattle.pack_words.proofs.Going.{spots_before}
use Rattle.pack_words.proofs.copying.copy_region.Given as goal

abbrev pub invariant-loop-v : goal.invariant-loop-v
invariant-loop-v l =
    record {
      array : l.to ≡ with_words l.fn.to (spots_before l.cut l.target l.v) (words_at l.from (spots_before l.cut l.source l.v));
      limits : IsLocalCells l.to;
      held : IsInArray l.to l.target;
    }
