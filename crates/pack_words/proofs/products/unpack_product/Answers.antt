-- One more column run.
use Rattle.std.proofs.Common.{◌≡◌, ◌+◌, length, take, drop, sym, ap, ◌∙◌, arith, subst, slice_index_or, zero-add}
use Rattle.pack_words.specs.LocalCells.{LocalCells}
use Rattle.pack_words.specs.Packing.{IsInCut, IsInArray, AllInArray, spots, with_words}
use Rattle.pack_words.specs.Products.{touched_down, touched_product}
use Rattle.pack_words.proofs.Going.{writing_goes_on, all_in_array_after}
use Rattle.pack_words.proofs.Crossing.{no_span}
use Rattle.pack_words.proofs.Touching.{all_crossed, crossed_more, crossed_length, crossed_room, crossed_none}
use Rattle.pack_words.proofs.products.unpack_product.Goals as goal

pub loop-col-init : goal.loop-col-init
loop-col-init c = record {
  end = ap length (sym (crossed_none c.args.cut.now c.args.by.now c.args.rows.now));
  array = ap (λ ss. with_words c.args.array.now ss (take (length ss) c.args.words.now)) (sym (crossed_none c.args.cut.now c.args.by.now c.args.rows.now));
  limits = c.lld-lead.ensures.array;
  held = c.requires.array;
}

pub unpack_down-at-requires-clause-cut : goal.unpack_down-at-requires-clause-cut
unpack_down-at-requires-clause-cut c = all_crossed (IsInCut c.args.cut.now) c.args.by.now c.args.rows.now c.args.cols.now c.loop-col.col-index c.requires.cut (omega arith)

pub unpack_down-at-requires-clause-array : goal.unpack_down-at-requires-clause-array
unpack_down-at-requires-clause-array c = all_crossed (IsInArray c.loop-col.array) c.args.by.now c.args.rows.now c.args.cols.now c.loop-col.col-index c.loop-col.invariant.held (omega arith)

pub unpack_down-at-requires-clause-room : goal.unpack_down-at-requires-clause-room
unpack_down-at-requires-clause-room c =
    let room = crossed_room c.args.cut.now c.args.by.now c.args.rows.now c.args.cols.now c.loop-col.col-index (omega arith) in
    omega arith

pub loop-col-preserved : goal.loop-col-preserved
loop-col-preserved c =
    let cut = c.args.cut.now in
    let by = c.args.by.now in
    let rows = c.args.rows.now in
    let cols = c.args.cols.now in
    let ws = c.args.words.now in
    let k = c.loop-col.col-index in
    let done = spots cut (touched_product by rows (take k cols)) in
    let next = spots cut (touched_down by rows (slice_index_or cols k no_span)) in
    let more = crossed_length cut by rows cols k (omega arith) in
    let room = crossed_room cut by rows cols k (omega arith) in
    let after : c.unpack_down-at.new.array ≡ with_words c.args.array.now (spots cut (touched_product by rows (take (k + 1) cols))) (take (length (spots cut (touched_product by rows (take (k + 1) cols)))) ws) =
    c.unpack_down-at.ensures.array
    ∙ ap (λ a. with_words a next (take (length next) (drop c.loop-col.at ws))) c.loop-col.invariant.array
    ∙ ap (λ n. with_words (with_words c.args.array.now done (take (length done) ws)) next (take (length next) (drop n ws))) (c.loop-col.invariant.end ∙ sym (zero-add (length done)))
    ∙ writing_goes_on c.args.array.now done next ws 0 (omega arith)
    ∙ ap (λ ss. with_words c.args.array.now ss (take (length ss) ws)) (sym (crossed_more cut by rows cols k (omega arith))) in
    record {
      end = omega arith;
      array = after;
      limits = c.unpack_down-at.ensures.limits;
      held = subst (λ (a : LocalCells). AllInArray a (touched_product by rows cols)) (sym c.unpack_down-at.ensures.array) (all_in_array_after c.loop-col.array next _ (touched_product by rows cols) c.loop-col.invariant.held);
    }
