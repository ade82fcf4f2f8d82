use Rattle.std.proofs.Common.{◌≡◌}
use Rattle.pack_words.specs.Accumulators.{first_made, no_held, value_at}
use Rattle.std.specs.Prelude.{slice_index_or}
use Rattle.fold_ops.specs.Join.{sum_joined}
use Rattle.pack_words.proofs.accumulator.add_values.Given as goal

abbrev pub invariant-loop-k : goal.invariant-loop-k
invariant-loop-k l = l.held ≡ first_made (λ k. sum_joined (slice_index_or l.fn.held k no_held) (value_at l.words k)) l.k l.fn.held
