use Rattle.std.proofs.Common.{◌≡◌, length, take}
use Rattle.pack_words.specs.Packing.{spots, words_at}
use Rattle.pack_words.proofs.packing.pack.Given as goal

abbrev pub invariant-loop-region : goal.invariant-loop-region
invariant-loop-region l =
    let done = spots l.cut (take l.region-index l.regions) in
    record {
      end : l.at ≡ length done;
      words : take l.at l.out ≡ words_at l.array done;
    }
