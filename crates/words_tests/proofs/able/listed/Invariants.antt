-- Those that were gathered and those that are still to come are all.
use Rattle.std.proofs.Common.{◌≡◌, ◌++◌, length}
use Rattle.words_tests.proofs.able.listed.Given as goal

abbrev pub invariant-loop-region : goal.invariant-loop-region
invariant-loop-region l = l.list.items ++ l.walk ≡ l.regions

abbrev pub decreases-loop-region : goal.decreases-loop-region
decreases-loop-region l = length l.walk
