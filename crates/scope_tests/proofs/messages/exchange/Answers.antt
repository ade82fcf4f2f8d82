-- The plan is empty before, and means two lines after.
use Rattle.scope_tests.proofs.Quiet.{after_two}
use Rattle.scope_tests.proofs.messages.exchange.Goals as goal

pub run-requires-clause-means : goal.run-requires-clause-means
run-requires-clause-means c = after_two _ _ _ _ _ _ c.requires.empty c.in_ok-send.ensures.appends.1 c.in_ok-receive.ensures.appends.1
