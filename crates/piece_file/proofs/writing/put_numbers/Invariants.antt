use Rattle.std.proofs.Common.{take, IsTrue}
use Rattle.std.specs.List.{flat_map}
use Rattle.store_io.specs.Outside.{SameCounts}
use Rattle.text_io.specs.Writing.{PutsOn, OnlyWrites}
use Rattle.piece_grammar.specs.PlainPiece.{spaced}
use Rattle.piece_file.proofs.writing.put_numbers.Given as goal

abbrev pub invariant-loop-number : goal.invariant-loop-number
invariant-loop-number g l =
    let state = g.S.Store.state in
    record {
      kept : OnlyWrites (state l.fn.store) (state l.store);
      counts : SameCounts (state l.fn.store) (state l.store);
      puts : IsTrue (state l.fn.store).told → PutsOn (state l.fn.store) (state l.store) l.fn.pen l.pen (flat_map spaced (take l.number-index l.numbers));
    }
