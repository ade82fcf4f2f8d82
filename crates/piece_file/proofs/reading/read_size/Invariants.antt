use Rattle.std.proofs.Common.{◌≡◌, ◌+◌, ◌-◌, ◌^◌, IsTrue}
use Rattle.text_io.specs.Reading.{SameButLeft}
use Rattle.mm_reader.specs.ReaderView.{lines_left}
use Rattle.piece_grammar.specs.PieceReading.{read_on}
use Rattle.piece_file.specs.Asking.{turn_view}
use Rattle.piece_file.specs.Halting.{behind_head}
use Rattle.piece_file.proofs.reading.read_size.Given as goal

abbrev pub invariant-loop-size : goal.invariant-loop-size
invariant-loop-size g l =
    let state = g.S.Store.state in
    record {
      same : SameButLeft (state l.fn.store) (state l.store);
      way : IsTrue (state l.fn.store).told
          → read_on (turn_view l.turn) l.fn.reader.number (behind_head l.head) (lines_left l.fn.reader (state l.fn.store)) ≡ read_on (turn_view l.turn) l.reader.number (behind_head l.head) (lines_left l.reader (state l.store));
    }

abbrev pub decreases-loop-size : goal.decreases-loop-size
decreases-loop-size g l = 2 ^ 30 + 1 - l.reader.before
