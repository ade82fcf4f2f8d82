use Rattle.std.proofs.Common.{◌≡◌, [], All, vec_len}
use Rattle.rank_runner.proofs.tasks.no_tasks.Given as goal

abbrev pub invariant-loop : goal.invariant-loop
invariant-loop l = (vec_len l.tasks ≡ l.counter) × All (λ ts. ts.items ≡ []) l.tasks.items
