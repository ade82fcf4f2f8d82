-- Splits.
use Rattle.move_laws.proofs.EndLaws.{split_moves}
use Rattle.move_laws.proofs.StartLaws.{can_split, split_gives}
use Rattle.move_laws.proofs.laws.split_is_a_move.Goals as goal

pub returns : goal.returns
returns c = record { each = split_moves; start = can_split; pieces = split_gives }
