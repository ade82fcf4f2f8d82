use Rattle.std.proofs.Common.{◌≡◌}
use Rattle.pack_words.specs.Accumulators.{first_made, value_at}
use Rattle.pack_words.proofs.accumulator.replace_values.Given as goal

abbrev pub invariant-loop-k : goal.invariant-loop-k
invariant-loop-k l = l.held ≡ first_made (value_at l.words) l.k l.fn.held
