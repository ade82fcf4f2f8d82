use Rattle.std.proofs.Common.{◌≡◌, ◌+◌, length, take, drop}
use Rattle.pack_words.specs.LocalCells.{IsLocalCells}
use Rattle.pack_words.specs.Packing.{IsInArray, with_words}
use Rattle.pack_words.proofs.Going.{spots_before}
use Rattle.pack_words.proofs.packing.unpack_region.Given as goal

abbrev pub invariant-loop-v : goal.invariant-loop-v
invariant-loop-v l =
    let done = spots_before l.cut l.region l.v in
    record {
      end : l.at ≡ l.start + length done;
      array : l.array ≡ with_words l.fn.array done (take (length done) (drop l.start l.words));
      limits : IsLocalCells l.array;
      held : IsInArray l.array l.region;
    }
