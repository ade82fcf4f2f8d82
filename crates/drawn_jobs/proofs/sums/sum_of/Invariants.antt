use Rattle.std.proofs.Common.{◌≡◌, ◌*◌, ◌^◌, ◌≤◌, take, unsigned_abs}
use Rattle.fold_ops.specs.Fold.{total}
use Rattle.drawn_jobs.proofs.sums.sum_of.Given as goal

abbrev pub invariant-loop-j : goal.invariant-loop-j
invariant-loop-j l = record {
  sum : l.sum ≡ total (take (l.j * l.cells.lld) l.cells.words);
  small : unsigned_abs l.sum ≤ l.j * l.cells.lld * 2 ^ 31;
}
