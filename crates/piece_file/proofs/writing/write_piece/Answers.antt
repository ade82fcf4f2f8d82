-- The piece is whole.
use Rattle.piece_file.specs.HeadView.{head_view}
use Rattle.piece_file.proofs.WritingLaws.{local_back}
use Rattle.piece_file.proofs.writing.write_piece.Goals as goal

pub returns-clause-back : goal.returns-clause-back
returns-clause-back g c = local_back (head_view c.args.head.now) c.args.cells.now c.requires.head c.lld-lead.ensures.array c.requires.rows c.requires.columns
