-- What is told of all once it is told of those that are still to come.
use Rattle.std.proofs.Common.{◌≤◌, ◌+◌, length}
use Rattle.pack_words.specs.Packing.{AllInCut, spots}
use Rattle.words_tests.proofs.checks.are_moved.Given as goal

abbrev pub invariant-loop-region : goal.invariant-loop-region
invariant-loop-region l =
    record {
      in_cut : AllInCut l.cut l.walk → AllInCut l.cut l.regions;
      few : length (spots l.cut l.regions) ≤ l.area + length (spots l.cut l.walk);
      most : l.area ≤ 67108864;
    }

abbrev pub decreases-loop-region : goal.decreases-loop-region
decreases-loop-region l = length l.walk
