use Rattle.std.proofs.Common.{◌≡◌}
use Rattle.pack_words.specs.WholeRegions.{whole_words}
use Rattle.pack_words.specs.Accumulators.{loaded_with}
use Rattle.pack_words.proofs.elements.load_elements.Given as goal

abbrev pub invariant-loop-k : goal.invariant-loop-k
invariant-loop-k l = l.held ≡ loaded_with (whole_words l.region l.array) l.place l.k l.fn.held
