use Rattle.std.proofs.Common.{◌≡◌, length, take}
use Rattle.pack_words.specs.LocalCells.{IsLocalCells}
use Rattle.pack_words.specs.Packing.{AllInArray, spots, with_words}
use Rattle.pack_words.proofs.packing.unpack_regions.Given as goal

abbrev pub invariant-loop-region : goal.invariant-loop-region
invariant-loop-region l =
    let done = spots l.cut (take l.region-index l.regions) in
    record {
      end : l.at ≡ length done;
      array : l.array ≡ with_words l.fn.array done (take (length done) l.words);
      limits : IsLocalCells l.array;
      held : AllInArray l.array l.regions;
    }
