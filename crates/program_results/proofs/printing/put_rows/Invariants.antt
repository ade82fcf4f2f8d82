use Rattle.std.proofs.Common.{◌≡◌, IsTrue}
use Rattle.program_results.specs.Pouring.{PoursOn}
use Rattle.program_results.specs.Printing.{first_rows}
use Rattle.program_results.proofs.printing.put_rows.Given as goal

-- the rows before this one are put
abbrev pub invariant-loop-i : goal.invariant-loop-i
invariant-loop-i g l =
    let state = g.O.Sink.state in
    record {
      told : (state l.out).told ≡ (state l.fn.out).told;
      faults : (state l.out).faults ≡ (state l.fn.out).faults;
      puts : IsTrue (state l.fn.out).told → PoursOn (state l.fn.out) (state l.out) l.fn.pen l.pen (first_rows (g.C.Cells.matrix l.fn.cells) l.i);
    }
