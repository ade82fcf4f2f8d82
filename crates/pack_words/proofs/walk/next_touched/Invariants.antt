-- Those that were passed are not touched.
use Rattle.std.proofs.Common.{◌≡◌}
use Rattle.pack_words.specs.Walks.{touched_from}
use Rattle.pack_words.proofs.walk.next_touched.Given as goal

abbrev pub invariant-loop-k : goal.invariant-loop-k
invariant-loop-k l = touched_from l.by l.rows l.cols l.k ≡ touched_from l.by l.rows l.cols l.at
