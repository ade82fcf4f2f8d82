use Rattle.std.proofs.Common.{◌≡◌, ◌*◌, ◌^◌, ◌≤◌, unsigned_abs}
use Rattle.std.specs.Prelude.{map}
use Rattle.pack_words.specs.GridState.{arrays_held}
use Rattle.drawn_jobs.specs.Dealing.{sum_after}
use Rattle.drawn_jobs.proofs.totals.sum_moved.Given as goal

abbrev pub invariant-loop-k : goal.invariant-loop-k
invariant-loop-k l = record {
  sum : l.sum ≡ sum_after (map arrays_held l.moved.nodes.items) l.k;
  small : unsigned_abs l.sum ≤ l.k * 2 ^ 57;
}
