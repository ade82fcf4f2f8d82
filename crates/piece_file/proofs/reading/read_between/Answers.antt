use Rattle.piece_file.specs.Asking.{turn_view}
use Rattle.piece_file.specs.Halting.{behind_head, behind_between}
use Rattle.piece_file.proofs.PartLaws.{part, part_moves, part_holds}
use Rattle.piece_file.proofs.reading.read_between.Goals as goal

pub returns-clause-passes : goal.returns-clause-passes
returns-clause-passes g c =
    rw c.at_line.ensures
    (part (behind_between c.args.head.now) c.array_step.result (turn_view c.args.turn.now) (behind_head c.args.head.now) c.args.reader.now c.take_line.new.reader (g.S.Store.state c.args.store.now) (g.S.Store.state c.take_line.new.store) c.text.result.now c.number-line.result c.in_ok-take_line.ensures c.text.ensures c.array_step.ensures.steps c.number-line.ensures)

pub returns-clause-fits : goal.returns-clause-fits
returns-clause-fits g c = rw c.at_line.ensures (part_holds _ c.number-line.result c.array_step.result c.array_step.ensures.fits)

pub returns-clause-moves : goal.returns-clause-moves
returns-clause-moves g c = rw c.at_line.ensures (part_moves c.array_step.result c.args.reader.now c.take_line.new.reader (g.S.Store.state c.args.store.now) (g.S.Store.state c.take_line.new.store) c.number-line.result c.in_ok-take_line.ensures)
