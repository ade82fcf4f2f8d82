use Rattle.std.proofs.Common.{◌≡◌, ◌+◌, ◌++◌, length, take}
use Rattle.pack_words.specs.Packing.{words_at}
use Rattle.pack_words.proofs.Going.{spots_before}
use Rattle.pack_words.proofs.packing.pack_region.Given as goal

abbrev pub invariant-loop-v : goal.invariant-loop-v
invariant-loop-v l =
    record {
      end : l.at ≡ l.start + length (spots_before l.cut l.region l.v);
      words : take l.at l.out ≡ take l.start l.fn.out ++ words_at l.array (spots_before l.cut l.region l.v);
    }
