use Rattle.std.proofs.Common.{◌≡◌, map}
use Rattle.std.specs.List.{range_with_len}
use Rattle.pack_words.specs.GridState.{scratch_needed}
use Rattle.pack_words.proofs.Measures.{wanted, measures_in, held_in}
use Rattle.scope_tests.proofs.memories.all_memories.Given as goal

abbrev pub invariant-loop-rank : goal.invariant-loop-rank
invariant-loop-rank l = record {
  shaped : map measures_in l.nodes.items ≡ map (λ r. wanted l.shapes r l.shapes.count) (range_with_len 0 l.rank);
  held : map held_in l.nodes.items ≡ map (λ r. scratch_needed r l.plan.steps) (range_with_len 0 l.rank);
}
