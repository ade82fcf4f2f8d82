use Rattle.piece_grammar.specs.Place.{AtDesc}
use Rattle.piece_file.specs.Asking.{turn_view}
use Rattle.piece_file.specs.Halting.{behind_head}
use Rattle.piece_file.proofs.PartLaws.{part, part_holds}
use Rattle.piece_file.proofs.reading.read_head.Goals as goal

pub returns-clause-passes : goal.returns-clause-passes
returns-clause-passes g c =
    rw c.at_line.ensures
    (part behind_head c.head_step.result (turn_view c.args.turn.now) AtDesc c.args.reader.now c.take_line.new.reader (g.S.Store.state c.args.store.now) (g.S.Store.state c.take_line.new.store) c.text.result.now c.number-line.result c.in_ok-take_line.ensures c.text.ensures c.head_step.ensures.steps c.number-line.ensures)

pub returns-clause-asked : goal.returns-clause-asked
returns-clause-asked g c = rw c.at_line.ensures (part_holds _ c.number-line.result c.head_step.result c.head_step.ensures.asked)
