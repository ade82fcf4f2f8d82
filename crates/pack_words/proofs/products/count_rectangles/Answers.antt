-- One more column run.
use Rattle.std.proofs.Common.{length, sym, ap, arith}
use Rattle.pack_words.specs.Packing.{IsInCut}
use Rattle.pack_words.proofs.Touching.{all_crossed, crossed_length, crossed_room, crossed_none}
use Rattle.pack_words.proofs.products.count_rectangles.Goals as goal

pub loop-col-init : goal.loop-col-init
loop-col-init c = ap length (sym (crossed_none c.args.cut.now c.args.by.now c.args.rows.now))

pub count_down-count-requires-clause-cut : goal.count_down-count-requires-clause-cut
count_down-count-requires-clause-cut c = all_crossed (IsInCut c.args.cut.now) c.args.by.now c.args.rows.now c.args.cols.now c.loop-col.col-index c.requires.cut (omega arith)

pub count_down-count-requires-clause-few : goal.count_down-count-requires-clause-few
count_down-count-requires-clause-few c =
    let room = crossed_room c.args.cut.now c.args.by.now c.args.rows.now c.args.cols.now c.loop-col.col-index (omega arith) in
    omega arith

pub loop-col-preserved : goal.loop-col-preserved
loop-col-preserved c =
    let more = crossed_length c.args.cut.now c.args.by.now c.args.rows.now c.args.cols.now c.loop-col.col-index (omega arith) in
    omega arith
