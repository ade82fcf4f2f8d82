use Rattle.mail_room.proofs.Moves.{puts, put_learns}
use Rattle.mail_room.proofs.ends.put_at.Goals as goal

pub push_as-requires-clause-rule : goal.push_as-requires-clause-rule
push_as-requires-clause-rule g c = (puts _ _ _ _ c.requires.sender c.requires.capacity c.requires.next, put_learns _ _ c.requires.sender)
