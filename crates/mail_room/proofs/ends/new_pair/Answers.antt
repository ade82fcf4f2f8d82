use Rattle.std.proofs.Common.{rules}
use Rattle.mail_room.proofs.Moves.{begins, splits}
use Rattle.mail_room.proofs.ends.new_pair.Goals as goal

pub ruled-requires-clause-rule : goal.ruled-requires-clause-rule
ruled-requires-clause-rule g c = begins

pub another-receiver-requires-clause-rule : goal.another-receiver-requires-clause-rule
another-receiver-requires-clause-rule g c = splits _ _ _ _ (search rules)
