use Rattle.std.proofs.Common.{◌≡◌, IsTrue, map}
use Rattle.pack_words.specs.GridState.{arrays_held}
use Rattle.program_results.specs.Pouring.{PoursOn}
use Rattle.program_results.proofs.WritingLaws.{first_prints}
use Rattle.program_results.proofs.writing.put_prints.Given as goal

-- what the lines before this one print is put
abbrev pub invariant-loop-print : goal.invariant-loop-print
invariant-loop-print g l =
    let state = g.O.Sink.state in
    record {
      told : (state l.out).told ≡ (state l.fn.out).told;
      faults : (state l.out).faults ≡ (state l.fn.out).faults;
      puts : IsTrue (state l.fn.out).told → PoursOn (state l.fn.out) (state l.out) l.fn.pen l.pen (first_prints (record { ends = l.ends; arrays = map arrays_held l.nodes }) l.print-index);
    }
