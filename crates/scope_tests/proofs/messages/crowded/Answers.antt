-- The plan stays of the same ranks.
use Rattle.scope_tests.proofs.Quiet.{still}
use Rattle.scope_tests.proofs.messages.crowded.Goals as goal

pub loop-init : goal.loop-init
loop-init c = c.requires.world

pub send-requires-clause-world : goal.send-requires-clause-world
send-requires-clause-world c = c.loop.invariant

pub loop-preserved : goal.loop-preserved
loop-preserved c = still _ _ _ _ c.loop.invariant c.in_ok-send.ensures.ranks

pub igsum2d-sum-requires-clause-world : goal.igsum2d-sum-requires-clause-world
igsum2d-sum-requires-clause-world c = c.loop.invariant

pub send-last-requires-clause-world : goal.send-last-requires-clause-world
send-last-requires-clause-world c = still _ _ _ _ c.loop.invariant c.igsum2d-sum.ensures.kept.0

pub send-more-requires-clause-world : goal.send-more-requires-clause-world
send-more-requires-clause-world c = still _ _ _ _ (still c.args.trial.shapes c.loop.plan c.igsum2d-sum.new.plan c.args.trial.ctx c.loop.invariant c.igsum2d-sum.ensures.kept.0) c.send-last.ensures.ranks
