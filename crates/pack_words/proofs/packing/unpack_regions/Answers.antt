-- One more region.
use Rattle.std.proofs.Common.{◌≡◌, ◌+◌, length, take, drop, sym, ap, ◌∙◌, subst, arith, slice_index_or, zero-add}
use Rattle.pack_words.specs.LocalCells.{LocalCells}
use Rattle.pack_words.specs.Packing.{no_region, AllInArray, spots, region_spots, with_words}
use Rattle.pack_words.proofs.Going.{spots_none, spots_more, spots_room, spots_length, writing_goes_on, all_in_array_after}
use Rattle.pack_words.proofs.packing.unpack_regions.Goals as goal

pub loop-region-init : goal.loop-region-init
loop-region-init c = record {
  end = ap length (sym (spots_none c.args.cut.now));
  array = ap (λ ss. with_words c.args.array.now ss (take (length ss) c.args.words.now)) (sym (spots_none c.args.cut.now));
  limits = c.lld-lead.ensures.array;
  held = c.requires.array;
}

pub unpack_region-at-requires-clause-room : goal.unpack_region-at-requires-clause-room
unpack_region-at-requires-clause-room c =
    let room = spots_room c.args.cut.now c.args.regions.now c.loop-region.region-index no_region (omega arith) in
    omega arith

pub loop-region-preserved : goal.loop-region-preserved
loop-region-preserved c =
    let cut = c.args.cut.now in
    let regions = c.args.regions.now in
    let ws = c.args.words.now in
    let i = c.loop-region.region-index in
    let done = spots cut (take i regions) in
    let next = region_spots cut (slice_index_or regions i no_region) in
    let more = spots_length cut regions i no_region (omega arith) in
    let room = spots_room cut regions i no_region (omega arith) in
    let after : c.unpack_region-at.new.array ≡ with_words c.args.array.now (spots cut (take (i + 1) regions)) (take (length (spots cut (take (i + 1) regions))) ws) =
    c.unpack_region-at.ensures.array
    ∙ ap (λ a. with_words a next (take (length next) (drop c.loop-region.at ws))) c.loop-region.invariant.array
    ∙ ap (λ n. with_words (with_words c.args.array.now done (take (length done) ws)) next (take (length next) (drop n ws))) (c.loop-region.invariant.end ∙ sym (zero-add (length done)))
    ∙ writing_goes_on c.args.array.now done next ws 0 (omega arith)
    ∙ ap (λ ss. with_words c.args.array.now ss (take (length ss) ws)) (sym (spots_more cut regions i no_region (omega arith))) in
    record {
      end = omega arith;
      array = after;
      limits = c.unpack_region-at.ensures.limits;
      held = subst (λ (a : LocalCells). AllInArray a regions) (sym c.unpack_region-at.ensures.array) (all_in_array_after c.loop-region.array next _ regions c.loop-region.invariant.held);
    }
