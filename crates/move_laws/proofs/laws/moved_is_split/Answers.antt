-- The law.
use Rattle.move_laws.proofs.MoveLaws.{moved_piece}
use Rattle.move_laws.proofs.laws.moved_is_split.Goals as goal

pub returns : goal.returns
returns c = moved_piece
