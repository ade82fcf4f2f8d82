use Rattle.std.proofs.Common.{◌≡◌, ◌-◌, IsTrue}
use Rattle.program_results.specs.Pouring.{PoursOn}
use Rattle.program_results.specs.RowParts.{next_values}
use Rattle.program_results.proofs.printing.put_others.Given as goal

-- the values before this one are put
abbrev pub invariant-loop-j : goal.invariant-loop-j
invariant-loop-j g l =
    let state = g.O.Sink.state in
    record {
      told : (state l.out).told ≡ (state l.fn.out).told;
      faults : (state l.out).faults ≡ (state l.fn.out).faults;
      puts : IsTrue (state l.fn.out).told → PoursOn (state l.fn.out) (state l.out) l.fn.pen l.pen (next_values (g.C.Cells.matrix l.fn.cells) l.i (l.j - 1));
    }
