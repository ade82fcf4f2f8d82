use Rattle.std.proofs.Common.{Err, sym, ap, ◌∙◌}
use Rattle.mm_grammar.specs.Faults.{Fault}
use Rattle.mm_reader.specs.Views.{of_line}
use Rattle.mm_reader.specs.ReaderView.{lines_left}
use Rattle.mm_reader.proofs.LineFinding.{line_left, none_left, fault_left}
use Rattle.piece_grammar.specs.Faults.{Mm}
use Rattle.piece_file.specs.FaultView.{fault_view}
use Rattle.piece_file.proofs.PartLaws.{fault_stops, end_stops}
use Rattle.piece_file.proofs.reading.take_line.Goals as goal

pub returns-in-Ok-Line : goal.returns-in-Ok-Line
returns-in-Ok-Line g c = record {
  line = λ told. let finds = rw c.in-Ok-Line.field-0-is at (c.in-Ok-Line.ensures.finds told) in line_left c.args.reader.now c.next.new.self (g.S.Store.state c.args.store.now).left (g.S.Store.state c.next.new.store).left finds;
  taken = rw c.in-Ok-Line.field-0-is at c.in-Ok-Line.ensures.moves;
  same = c.in-Ok-Line.ensures.takes;
}

pub returns-in-Ok-End : goal.returns-in-Ok-End
returns-in-Ok-End g c = (
  λ told turn place e.
      let finds = rw c.in-Ok-End.field-0-is at (c.in-Ok-End.ensures.finds told) in
      end_stops c.args.reader.now.number c.number-line.result (lines_left c.args.reader.now (g.S.Store.state c.args.store.now)) (fault_view c.args.missing) (none_left c.args.reader.now (g.S.Store.state c.args.store.now).left finds) c.number-line.ensures turn place e,
  c.in-Ok-End.ensures.takes,
)

pub returns-in-Ok-Fault : goal.returns-in-Ok-Fault
returns-in-Ok-Fault g c = (
  λ told turn place e.
      let finds = rw c.in-Ok-Fault.field-0-is at (c.in-Ok-Fault.ensures.finds told) in
      fault_stops c.args.reader.now.number c.number-line.result (lines_left c.args.reader.now (g.S.Store.state c.args.store.now)) (of_line c.in-Ok-Fault.what) (fault_left c.in-Ok-Fault.what c.args.reader.now (g.S.Store.state c.args.store.now).left finds) c.number-line.ensures turn place
      ∙ ap (λ (f : Fault). Err (record { line = c.number-line.result; fault = Mm f })) (sym c.of_line.ensures),
  c.in-Ok-Fault.ensures.takes,
)
