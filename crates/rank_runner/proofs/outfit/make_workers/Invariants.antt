use Rattle.std.proofs.Common.{◌≡◌, [], All, vec_len}
use Rattle.rank_runner.specs.Stacks.{HasRoom, posts_in}
use Rattle.rank_runner.proofs.outfit.make_workers.Given as goal

abbrev pub invariant-loop : goal.invariant-loop
invariant-loop g l = record {
  len : vec_len l.workers ≡ l.counter;
  empty : All (λ w. posts_in w ≡ []) l.workers.items;
  room : All (HasRoom l.ranks) l.workers.items;
}
