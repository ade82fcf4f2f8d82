use Rattle.std.proofs.Common.{◌<◌, length, arith}
use Rattle.program_results.proofs.AskingLaws.{prints_more}
use Rattle.program_results.proofs.asking.prints_of.Goals as goal

pub loop-numbered-preserved : goal.loop-numbered-preserved
loop-numbered-preserved c =
    let lt : c.loop-numbered.numbered-index < length c.args.lines.now = omega (arith, c.loop-numbered-test.true) in
    prints_more c.args.lines.now c.loop-numbered.numbered-index c.numbered-item.result c.loop-numbered.prints.items c.add_print.new.prints.items lt c.numbered-item.is c.loop-numbered.invariant c.in_ok-add_print.ensures
