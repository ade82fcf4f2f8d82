-- The law.
use Rattle.move_laws.proofs.FileLaws.{one_piece_is}
use Rattle.move_laws.proofs.laws.one_piece.Goals as goal

pub returns : goal.returns
returns c = one_piece_is
