use Rattle.std.proofs.Common.{take}
use Rattle.std.specs.List.{AllByRecursion}
use Rattle.pack_words.specs.Packing.{AreApart}
use Rattle.words_tests.proofs.able.leave_out.Given as goal

abbrev pub invariant-loop-k : goal.invariant-loop-k
invariant-loop-k l = AllByRecursion (λ r. AreApart r l.region) (take l.k l.regions)
