use Rattle.std.proofs.Common.{◌≡◌, length, take}
use Rattle.pack_words.specs.Packing.{spots}
use Rattle.pack_words.proofs.packing.count.Given as goal

abbrev pub invariant-loop-region : goal.invariant-loop-region
invariant-loop-region l = l.count ≡ length (spots l.cut (take l.region-index l.regions))
