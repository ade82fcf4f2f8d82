-- All lie in the array once those that are still to come do.
use Rattle.std.proofs.Common.{length}
use Rattle.pack_words.specs.Packing.{AllInArray}
use Rattle.words_tests.proofs.checks.in_array.Given as goal

abbrev pub invariant-loop-region : goal.invariant-loop-region
invariant-loop-region l = AllInArray l.array l.walk → AllInArray l.array l.regions

abbrev pub decreases-loop-region : goal.decreases-loop-region
decreases-loop-region l = length l.walk
