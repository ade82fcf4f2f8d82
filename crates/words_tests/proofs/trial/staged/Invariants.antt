use Rattle.std.proofs.Common.{◌≡◌}
use Rattle.msg_core.specs.Plans.{AllCan}
use Rattle.pack_words.specs.GridState.{rank_nodes}
use Rattle.words_tests.proofs.trial.staged.Given as goal

abbrev pub invariant-loop-rank : goal.invariant-loop-rank
invariant-loop-rank l =
    (goal.iterator-loop-rank).can_next l.rank-iterator × (goal.iterator-loop-rank).is_finite l.rank-iterator × (l.plan.ranks ≡ 2) × AllCan rank_nodes l.nodes.items l.plan.steps
