use Rattle.std.proofs.Common.{◌≡◌, [], ◌∷◌, ◌*◌, map, take}
use Rattle.pack_words.specs.LocalCells.{IsLocalCells}
use Rattle.pack_words.specs.Packing.{IsInArray, spots, with_words}
use Rattle.pack_words.specs.WholeRegions.{whole_cut}
use Rattle.pack_words.specs.Coordinates.{written_word}
use Rattle.pack_words.proofs.elements.store_elements.Given as goal

abbrev pub invariant-loop-k : goal.invariant-loop-k
invariant-loop-k l =
    record {
      array : l.array ≡ with_words l.fn.array (take l.k (spots (whole_cut l.region) (l.region ∷ []))) (take l.k (map (written_word l.written) (take (l.region.rows * l.region.cols) l.held)));
      limits : IsLocalCells l.array;
      inside : IsInArray l.array l.region;
    }
