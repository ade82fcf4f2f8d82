-- One more column.
use Rattle.std.proofs.Common.{length, ap, ◌∙◌, arith}
use Rattle.pack_words.proofs.Columns.{column_length}
use Rattle.pack_words.proofs.Going.{before_length, before_room, before_all}
use Rattle.pack_words.proofs.packing.count_region.Goals as goal

pub overflow_add-count : goal.overflow_add-count
overflow_add-count c =
    let len = column_length c.args.cut.now c.args.region.now c.loop-v.v c.selected_part-first.result.0 c.selected_part-first.result.1 c.selected_part-first.ensures in
    let room = before_room c.args.cut.now c.args.region.now c.loop-v.v (omega arith) in
    omega arith

pub loop-v-preserved : goal.loop-v-preserved
loop-v-preserved c =
    let len = column_length c.args.cut.now c.args.region.now c.loop-v.v c.selected_part-first.result.0 c.selected_part-first.result.1 c.selected_part-first.ensures in
    let more = before_length c.args.cut.now c.args.region.now c.loop-v.v in
    omega arith

pub returns : goal.returns
returns c = c.loop-v.invariant ∙ ap length (before_all c.args.cut.now c.args.region.now c.loop-v.v (omega arith))
