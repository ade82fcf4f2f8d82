use Rattle.std.proofs.Common.{◌<◌, length, arith}
use Rattle.program_results.proofs.AskingLaws.{files_more}
use Rattle.program_results.proofs.asking.files_of.Goals as goal

pub loop-numbered-preserved : goal.loop-numbered-preserved
loop-numbered-preserved c =
    let lt : c.loop-numbered.numbered-index < length c.args.lines.now = omega (arith, c.loop-numbered-test.true) in
    record {
      files_are = files_more c.args.places.now c.args.lines.now c.loop-numbered.numbered-index c.numbered-item.result c.loop-numbered.files.items c.add_files.new.files.items lt c.numbered-item.is c.loop-numbered.invariant.files_are c.in_ok-add_files.ensures.files;
      few = omega (arith, c.in_ok-add_files.ensures.few, c.loop-numbered.invariant.few);
    }
