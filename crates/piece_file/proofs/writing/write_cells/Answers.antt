use Rattle.piece_file.specs.HeadView.{head_view}
use Rattle.piece_grammar.proofs.PlainPieceLaws.{reads_back}
use Rattle.piece_file.specs.PieceView.{matrix_piece}
use Rattle.piece_file.proofs.writing.write_cells.Goals as goal

pub returns-clause-back : goal.returns-clause-back
returns-clause-back g c = λ whole. reads_back (matrix_piece (head_view c.args.head.now) (g.C.Cells.matrix c.args.cells.now)) whole
