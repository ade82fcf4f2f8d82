use Rattle.std.proofs.Common.{◌≡◌}
use Rattle.pack_words.specs.Accumulators.{first_made, held_at}
use Rattle.pack_words.proofs.accumulator.replace_pairs.Given as goal

abbrev pub invariant-loop-k : goal.invariant-loop-k
invariant-loop-k l = l.held ≡ first_made (held_at l.words l.len) l.k l.fn.held
