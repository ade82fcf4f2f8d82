-- Joins.
use Rattle.move_laws.proofs.EndLaws.{join_moves}
use Rattle.move_laws.proofs.StartLaws.{can_join, join_gives}
use Rattle.move_laws.proofs.laws.join_is_a_move.Goals as goal

pub returns : goal.returns
returns c = record { any = join_moves; start = can_join; whole = join_gives }
