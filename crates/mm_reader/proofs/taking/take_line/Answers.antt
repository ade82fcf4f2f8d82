use Rattle.std.proofs.Common.{ℕ, Err, sym, ap, ◌∙◌}
use Rattle.mm_grammar.specs.Faults.{Fault}
use Rattle.mm_grammar.specs.Width.{width32}
use Rattle.mm_reader.specs.Views.{fault_of, of_line}
use Rattle.mm_reader.specs.ReaderView.{lines_left}
use Rattle.mm_reader.proofs.LineFinding.{line_left, none_left, fault_left}
use Rattle.mm_reader.proofs.WayLaws.{fault_stops}
use Rattle.mm_reader.proofs.taking.take_line.Goals as goal

pub returns-in-Ok-Line : goal.returns-in-Ok-Line
returns-in-Ok-Line g c = record {
  line = λ told. line_left c.args.reader.now c.next.new.self (g.S.Store.state c.args.store.now).left (g.S.Store.state c.next.new.store).left (rw c.in-Ok-Line.field-0-is at (c.in-Ok-Line.ensures.finds told));
  taken = rw c.in-Ok-Line.field-0-is at c.in-Ok-Line.ensures.moves;
  same = c.in-Ok-Line.ensures.takes;
}

pub returns-in-Ok-End : goal.returns-in-Ok-End
returns-in-Ok-End g c = record {
  none = λ told. none_left c.args.reader.now (g.S.Store.state c.args.store.now).left (rw c.in-Ok-End.field-0-is at (c.in-Ok-End.ensures.finds told));
  left = λ told. c.in-Ok-End.ensures.ended told c.in-Ok-End.field-0-is;
  same = c.in-Ok-End.ensures.takes;
}

pub returns-in-Ok-Fault : goal.returns-in-Ok-Fault
returns-in-Ok-Fault g c = (
  λ told place.
      let finds = rw c.in-Ok-Fault.field-0-is at (c.in-Ok-Fault.ensures.finds told) in
      fault_stops width32 c.args.reader.now.number place (lines_left c.args.reader.now (g.S.Store.state c.args.store.now)) (of_line c.in-Ok-Fault.fault) (fault_left c.in-Ok-Fault.fault c.args.reader.now (g.S.Store.state c.args.store.now).left finds)
      ∙ ap (λ (f : Fault). Err (record { line = c.args.reader.now.number; fault = f })) (sym c.of_line.ensures) ∙ ap (λ (n : ℕ). Err (record { line = n; fault = fault_of c.of_line.result })) (sym c.number-line.ensures),
  c.in-Ok-Fault.ensures.takes,
)
