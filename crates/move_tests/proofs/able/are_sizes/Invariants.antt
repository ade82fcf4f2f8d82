use Rattle.std.proofs.Common.{take}
use Rattle.std.specs.List.{AllByRecursion}
use Rattle.pack_words.specs.GridShapes.{IsSize}
use Rattle.move_tests.proofs.able.are_sizes.Given as goal

abbrev pub invariant-loop-size : goal.invariant-loop-size
invariant-loop-size l = AllByRecursion IsSize (take l.size-index l.sizes)
