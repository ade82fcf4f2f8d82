-- The size decides.
use Rattle.mm_grammar.specs.Symmetry.{General}
use Rattle.mm_reader.specs.Views.{header_view}
use Rattle.mm_reader.specs.ReaderView.{line_of}
use Rattle.piece_file.specs.HeadView.{head_view}
use Rattle.piece_file.specs.FaultView.{fault_view}
use Rattle.piece_file.specs.Asking.{turn_view}
use Rattle.piece_file.proofs.StepLaws.{size_taken, size_refused}
use Rattle.piece_file.proofs.reading.array_step.Goals as goal

pub returns-in-None-clause-steps : goal.returns-in-None-clause-steps
returns-in-None-clause-steps c = λ upto near.
    size_taken (turn_view c.args.turn.now) (head_view c.args.head.now) General (header_view c.in-Ok-Some.size) (line_of c.args.line.now upto) (rw c.in-Ok-Some.field-0-is at (c.in-Ok-Some.ensures.steps upto near)) c.in-None.ensures

pub returns-in-Some-clause-steps : goal.returns-in-Some-clause-steps
returns-in-Some-clause-steps c = λ upto near.
    size_refused (turn_view c.args.turn.now) (head_view c.args.head.now) General (header_view c.in-Ok-Some.size) (line_of c.args.line.now upto) (fault_view c.in-Some.fault) (rw c.in-Ok-Some.field-0-is at (c.in-Ok-Some.ensures.steps upto near)) c.in-Some.ensures
