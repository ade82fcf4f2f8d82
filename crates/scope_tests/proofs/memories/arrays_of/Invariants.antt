use Rattle.std.proofs.Common.{◌≡◌}
use Rattle.pack_words.specs.GridShapes.{measures_of}
use Rattle.pack_words.proofs.Measures.{wanted}
use Rattle.scope_tests.proofs.memories.arrays_of.Given as goal

abbrev pub invariant-loop-array : goal.invariant-loop-array
invariant-loop-array l = measures_of l.arrays.items ≡ wanted l.shapes l.rank l.array
