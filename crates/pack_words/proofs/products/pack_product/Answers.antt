-- One more column run.
use Rattle.std.proofs.Common.{[], length, take, sym, ap, ◌∙◌, arith, slice_index_or}
use Rattle.pack_words.specs.Packing.{IsInCut, IsInArray, spots, words_at}
use Rattle.pack_words.specs.Products.{touched_down, touched_product}
use Rattle.pack_words.proofs.Going.{words_go_on}
use Rattle.pack_words.proofs.Crossing.{no_span}
use Rattle.pack_words.proofs.Touching.{all_crossed, crossed_more, crossed_length, crossed_room, crossed_none}
use Rattle.pack_words.proofs.products.pack_product.Goals as goal

pub loop-col-init : goal.loop-col-init
loop-col-init c = record {
  end = ap length (sym (crossed_none c.args.cut.now c.args.by.now c.args.rows.now));
  words = ap (words_at c.args.array.now) (sym (crossed_none c.args.cut.now c.args.by.now c.args.rows.now));
}

pub pack_down-at-requires-clause-cut : goal.pack_down-at-requires-clause-cut
pack_down-at-requires-clause-cut c = all_crossed (IsInCut c.args.cut.now) c.args.by.now c.args.rows.now c.args.cols.now c.loop-col.col-index c.requires.cut (omega arith)

pub pack_down-at-requires-clause-array : goal.pack_down-at-requires-clause-array
pack_down-at-requires-clause-array c = all_crossed (IsInArray c.args.array.now) c.args.by.now c.args.rows.now c.args.cols.now c.loop-col.col-index c.requires.array (omega arith)

pub pack_down-at-requires-clause-room : goal.pack_down-at-requires-clause-room
pack_down-at-requires-clause-room c =
    let room = crossed_room c.args.cut.now c.args.by.now c.args.rows.now c.args.cols.now c.loop-col.col-index (omega arith) in
    omega arith

pub loop-col-preserved : goal.loop-col-preserved
loop-col-preserved c =
    let cut = c.args.cut.now in
    let by = c.args.by.now in
    let rows = c.args.rows.now in
    let cols = c.args.cols.now in
    let k = c.loop-col.col-index in
    let more = crossed_length cut by rows cols k (omega arith) in
    record {
      end = omega arith;
      words = words_go_on c.args.array.now (spots cut (touched_product by rows (take k cols))) (spots cut (touched_down by rows (slice_index_or cols k no_span))) [] (take c.loop-col.at c.loop-col.out) (take c.pack_down-at.result c.pack_down-at.new.out) c.loop-col.invariant.words c.pack_down-at.ensures.words
          ∙ ap (words_at c.args.array.now) (sym (crossed_more cut by rows cols k (omega arith)));
    }
