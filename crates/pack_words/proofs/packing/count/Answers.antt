-- One more region.
use Rattle.std.proofs.Common.{length, sym, ap, arith}
use Rattle.pack_words.specs.Packing.{no_region}
use Rattle.pack_words.proofs.Going.{spots_none, spots_room, spots_length}
use Rattle.pack_words.proofs.packing.count.Goals as goal

pub loop-region-init : goal.loop-region-init
loop-region-init c = ap length (sym (spots_none c.args.cut.now))

pub count_region-count-requires-clause-count : goal.count_region-count-requires-clause-count
count_region-count-requires-clause-count c =
    let room = spots_room c.args.cut.now c.args.regions.now c.loop-region.region-index no_region (omega arith) in
    omega arith

pub overflow_add-count : goal.overflow_add-count
overflow_add-count c =
    let room = spots_room c.args.cut.now c.args.regions.now c.loop-region.region-index no_region (omega arith) in
    omega arith

pub loop-region-preserved : goal.loop-region-preserved
loop-region-preserved c =
    let more = spots_length c.args.cut.now c.args.regions.now c.loop-region.region-index no_region (omega arith) in
    omega arith
