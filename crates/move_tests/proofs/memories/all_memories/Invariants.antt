use Rattle.std.proofs.Common.{◌≡◌, map}
use Rattle.std.specs.List.{range_with_len}
use Rattle.pack_words.proofs.Measures.{wanted, measures_in}
use Rattle.move_tests.proofs.memories.all_memories.Given as goal

abbrev pub invariant-loop-rank : goal.invariant-loop-rank
invariant-loop-rank l = map measures_in l.nodes.items ≡ map (λ r. wanted l.shapes r l.shapes.count) (range_with_len 0 l.rank)
