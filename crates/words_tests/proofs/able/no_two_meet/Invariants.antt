use Rattle.std.proofs.Common.{take}
use Rattle.pack_words.specs.Packing.{AllApart}
use Rattle.words_tests.proofs.able.no_two_meet.Given as goal

abbrev pub invariant-loop-k : goal.invariant-loop-k
invariant-loop-k l = AllApart (take l.k l.regions)
