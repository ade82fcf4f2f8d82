use Rattle.std.proofs.Common.{take}
use Rattle.pack_words.specs.Packing.{AllAlike}
use Rattle.words_tests.proofs.able.each_is_alike.Given as goal

abbrev pub invariant-loop-k : goal.invariant-loop-k
invariant-loop-k l = AllAlike (take l.k l.sources) (take l.k l.targets)
