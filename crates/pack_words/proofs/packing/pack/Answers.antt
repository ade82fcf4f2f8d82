-- One more region.
use Rattle.std.proofs.Common.{[], length, take, sym, ap, ◌∙◌, arith, slice_index_or}
use Rattle.pack_words.specs.Packing.{no_region, spots, region_spots, words_at}
use Rattle.pack_words.proofs.Going.{spots_none, spots_more, spots_room, spots_length, words_go_on}
use Rattle.pack_words.proofs.packing.pack.Goals as goal

pub loop-region-init : goal.loop-region-init
loop-region-init c = record {
  end = ap length (sym (spots_none c.args.cut.now));
  words = ap (words_at c.args.array.now) (sym (spots_none c.args.cut.now));
}

pub pack_region-at-requires-clause-room : goal.pack_region-at-requires-clause-room
pack_region-at-requires-clause-room c =
    let room = spots_room c.args.cut.now c.args.regions.now c.loop-region.region-index no_region (omega arith) in
    omega arith

pub loop-region-preserved : goal.loop-region-preserved
loop-region-preserved c =
    let cut = c.args.cut.now in
    let regions = c.args.regions.now in
    let i = c.loop-region.region-index in
    let more = spots_length cut regions i no_region (omega arith) in
    record {
      end = omega arith;
      words = words_go_on c.args.array.now (spots cut (take i regions)) (region_spots cut (slice_index_or regions i no_region)) [] (take c.loop-region.at c.loop-region.out) (take c.pack_region-at.result c.pack_region-at.new.out) c.loop-region.invariant.words c.pack_region-at.ensures.words
          ∙ ap (words_at c.args.array.now) (sym (spots_more cut regions i no_region (omega arith)));
    }
