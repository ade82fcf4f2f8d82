-- One more row run.
use Rattle.std.proofs.Common.{◌+◌, ◌++◌, length, take, slice_index_or, sym, ap, ◌∙◌, arith, subst}
use Rattle.std.proofs.lemmas.List.{append-nil}
use Rattle.pack_words.specs.declared.cut.Cut.{Cut}
use Rattle.pack_words.specs.declared.region.Region.{Region}
use Rattle.pack_words.specs.Packing.{IsInCut, IsInArray, region_spots, spots, words_at}
use Rattle.pack_words.specs.Products.{crossing, down}
use Rattle.pack_words.proofs.Crossing.{no_span}
use Rattle.pack_words.proofs.Going.{words_go_on, spots_none}
use Rattle.pack_words.proofs.RunSpots.{down_more, down_length, down_room, down_all, each_down}
use Rattle.pack_words.proofs.row_runs.pack_in_columns.Goals as goal

pub loop-row-init : goal.loop-row-init
loop-row-init c =
    let nothing = spots_none c.args.cut.now in
    let none = ap length nothing in
    record {
      end = omega arith;
      words = sym (append-nil (take c.args.start c.args.out.now)) ∙ ap (λ ss. take c.args.start c.args.out.now ++ words_at c.args.array.now ss) (sym nothing);
    }

pub pack_region-at-requires-clause-cut : goal.pack_region-at-requires-clause-cut
pack_region-at-requires-clause-cut c =
    subst (λ (k : Cut). IsInCut k c.crossing_of-region.result) (sym c.whole_of-whole.ensures)
    (subst (λ (r : Region). IsInCut c.args.cut.now r) (sym c.crossing_of-region.ensures) (each_down (IsInCut c.args.cut.now) c.args.rows.now c.args.col.now c.loop-row.row-index c.requires.cut (omega arith)))

pub pack_region-at-requires-clause-array : goal.pack_region-at-requires-clause-array
pack_region-at-requires-clause-array c =
    subst (λ (r : Region). IsInArray c.args.array.now r) (sym c.crossing_of-region.ensures) (each_down (IsInArray c.args.array.now) c.args.rows.now c.args.col.now c.loop-row.row-index c.requires.array (omega arith))

pub pack_region-at-requires-clause-room : goal.pack_region-at-requires-clause-room
pack_region-at-requires-clause-room c =
    let same = ap (λ r. length (region_spots c.args.cut.now r)) c.crossing_of-region.ensures in
    let whole = ap (λ k. length (region_spots k c.crossing_of-region.result)) c.whole_of-whole.ensures in
    let room = down_room c.args.cut.now c.args.rows.now c.args.col.now c.loop-row.row-index (omega arith) in
    omega arith

pub loop-row-preserved : goal.loop-row-preserved
loop-row-preserved c =
    let array = c.args.array.now in
    let cut = c.args.cut.now in
    let rows = c.args.rows.now in
    let col = c.args.col.now in
    let i = c.loop-row.row-index in
    let next : Region = crossing (slice_index_or rows i no_span) col in
    let same = c.crossing_of-region.ensures in
    let whole = c.whole_of-whole.ensures in
    let more = down_length cut rows col i (omega arith) in
    let size = ap (λ k. length (region_spots k c.crossing_of-region.result)) whole ∙ ap (λ r. length (region_spots cut r)) same in
    record {
      end = omega arith;
      words = words_go_on array (spots cut (take i (down rows col))) (region_spots cut next) (take c.args.start c.args.out.now) (take c.loop-row.at c.loop-row.out) (take c.pack_region-at.result c.pack_region-at.new.out) c.loop-row.invariant.words
          (c.pack_region-at.ensures.words
          ∙ ap (λ k. take c.loop-row.at c.loop-row.out ++ words_at array (region_spots k c.crossing_of-region.result)) whole
          ∙ ap (λ r. take c.loop-row.at c.loop-row.out ++ words_at array (region_spots cut r)) same)
          ∙ ap (λ ss. take c.args.start c.args.out.now ++ words_at array ss) (sym (down_more cut rows col i (omega arith)));
    }

pub returns-clause-end : goal.returns-clause-end
returns-clause-end c =
    c.loop-row.invariant.end ∙ ap (λ rs. c.args.start + length (spots c.args.cut.now rs)) (down_all c.args.rows.now c.args.col.now c.loop-row.row-index (omega arith))

pub returns-clause-words : goal.returns-clause-words
returns-clause-words c =
    c.loop-row.invariant.words ∙ ap (λ rs. take c.args.start c.args.out.now ++ words_at c.args.array.now (spots c.args.cut.now rs)) (down_all c.args.rows.now c.args.col.now c.loop-row.row-index (omega arith))
