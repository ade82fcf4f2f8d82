-- Moves of pieces.
use Rattle.move_laws.proofs.EndLaws.{pieces_move}
use Rattle.move_laws.proofs.laws.moved_is_joined_and_split.Goals as goal

pub returns : goal.returns
returns c = pieces_move
