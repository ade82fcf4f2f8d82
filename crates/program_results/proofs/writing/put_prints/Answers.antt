-- What the lines before this one print, and what it prints.
use Rattle.std.proofs.Common.{◌<◌, ◌≤◌, IsTrue, length, get_or, map, sym, ap, subst, ◌∙◌, arith}
use Rattle.pack_words.specs.GridState.{arrays_held}
use Rattle.program_results.specs.EndsView.{FinishedView}
use Rattle.program_results.specs.declared.file.Print.TheVariants as print
use Rattle.program_results.proofs.WritingLaws.{item_is, more_prints, prints_failed, all_prints}
use Rattle.program_results.proofs.writing.put_prints.Goals as goal

pub returns-in-Err-clause-pours : goal.returns-in-Err-clause-pours
returns-in-Err-clause-pours g c = λ told.
    let f : FinishedView = record { ends = c.args.ends.now; arrays = map arrays_held c.args.nodes.now } in
    let items = c.prints-print-items.result.now in
    let k = c.loop-print.print-index in
    let low : k < length items = omega (arith, c.loop-print-test.true) in
    let lt : k < length f.ends.prints = omega (arith, low, ap length c.prints-print-items.ensures.prints) in
    let is = item_is items f.ends.prints k (print.Array 0) low c.prints-print-items.ensures.prints in
    prints_failed f k (get_or items k (print.Array 0)) (g.O.Sink.state c.args.out.now) (g.O.Sink.state c.loop-print.out) (g.O.Sink.state c.put_print.new.out) c.args.pen.now c.loop-print.pen lt is (c.loop-print.invariant.puts told) (c.in-Err.ensures.pours (subst IsTrue (sym c.loop-print.invariant.told) told))

pub loop-print-preserved : goal.loop-print-preserved
loop-print-preserved g c =
    let f : FinishedView = record { ends = c.args.ends.now; arrays = map arrays_held c.args.nodes.now } in
    let items = c.prints-print-items.result.now in
    let k = c.loop-print.print-index in
    let low : k < length items = omega (arith, c.loop-print-test.true) in
    let lt : k < length f.ends.prints = omega (arith, low, ap length c.prints-print-items.ensures.prints) in
    let is = item_is items f.ends.prints k (print.Array 0) low c.prints-print-items.ensures.prints in
    record {
      told = c.in-Ok.ensures.tells.told ∙ c.loop-print.invariant.told;
      faults = c.in-Ok.ensures.tells.faults ∙ c.loop-print.invariant.faults;
      puts = λ told. more_prints f k (get_or items k (print.Array 0)) (g.O.Sink.state c.args.out.now) (g.O.Sink.state c.loop-print.out) (g.O.Sink.state c.put_print.new.out) c.args.pen.now c.loop-print.pen c.put_print.new.pen lt is (c.loop-print.invariant.puts told) (c.in-Ok.ensures.pours (subst IsTrue (sym c.loop-print.invariant.told) told));
    }

pub returns-clause-pours : goal.returns-clause-pours
returns-clause-pours g c = λ told.
    let f : FinishedView = record { ends = c.args.ends.now; arrays = map arrays_held c.args.nodes.now } in
    let le : length f.ends.prints ≤ c.loop-print.print-index = omega (arith, c.loop-print-test.false, ap length c.prints-print-items.ensures.prints) in
    all_prints f c.loop-print.print-index (g.O.Sink.state c.args.out.now) (g.O.Sink.state c.loop-print.out) c.args.pen.now c.loop-print.pen le (c.loop-print.invariant.puts told)
