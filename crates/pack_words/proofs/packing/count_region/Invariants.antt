use Rattle.std.proofs.Common.{◌≡◌, length}
use Rattle.pack_words.proofs.Going.{spots_before}
use Rattle.pack_words.proofs.packing.count_region.Given as goal

abbrev pub invariant-loop-v : goal.invariant-loop-v
invariant-loop-v l = l.count ≡ length (spots_before l.cut l.region l.v)
