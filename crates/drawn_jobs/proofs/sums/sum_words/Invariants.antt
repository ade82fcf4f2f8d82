use Rattle.std.proofs.Common.{◌≡◌, ◌*◌, ◌^◌, ◌≤◌, take, unsigned_abs}
use Rattle.fold_ops.specs.Fold.{total}
use Rattle.drawn_jobs.proofs.sums.sum_words.Given as goal

abbrev pub invariant-loop-word : goal.invariant-loop-word
invariant-loop-word l = record {
  sum : l.sum ≡ total (take l.word-index l.words);
  small : unsigned_abs l.sum ≤ l.word-index * 2 ^ 31;
}
