-- One more row run.
use Rattle.std.proofs.Common.{◌≡◌, ◌+◌, length, take, drop, slice_index_or, sym, ap, ◌∙◌, arith, subst}
use Rattle.pack_words.specs.declared.cut.Cut.{Cut}
use Rattle.pack_words.specs.declared.region.Region.{Region}
use Rattle.pack_words.specs.LocalCells.{LocalCells}
use Rattle.pack_words.specs.Packing.{IsInCut, IsInArray, AllInArray, region_spots, spots, with_words}
use Rattle.pack_words.specs.Products.{crossing, down}
use Rattle.pack_words.proofs.Crossing.{no_span}
use Rattle.pack_words.proofs.Going.{writing_goes_on, all_in_array_after, spots_none}
use Rattle.pack_words.proofs.RunSpots.{down_more, down_length, down_room, down_all, each_down}
use Rattle.pack_words.proofs.row_runs.unpack_in_columns.Goals as goal

pub loop-row-init : goal.loop-row-init
loop-row-init c =
    let nothing = spots_none c.args.cut.now in
    let none = ap length nothing in
    record {
      end = omega arith;
      array = ap (λ ss. with_words c.args.array.now ss (take (length ss) (drop c.args.start c.args.words.now))) (sym nothing);
      limits = c.requires.limits;
      held = c.requires.array;
    }

pub unpack_region-at-requires-clause-cut : goal.unpack_region-at-requires-clause-cut
unpack_region-at-requires-clause-cut c =
    subst (λ (k : Cut). IsInCut k c.crossing_of-region.result) (sym c.whole_of-whole.ensures)
    (subst (λ (r : Region). IsInCut c.args.cut.now r) (sym c.crossing_of-region.ensures) (each_down (IsInCut c.args.cut.now) c.args.rows.now c.args.col.now c.loop-row.row-index c.requires.cut (omega arith)))

pub unpack_region-at-requires-clause-array : goal.unpack_region-at-requires-clause-array
unpack_region-at-requires-clause-array c =
    subst (λ (r : Region). IsInArray c.loop-row.array r) (sym c.crossing_of-region.ensures) (each_down (IsInArray c.loop-row.array) c.args.rows.now c.args.col.now c.loop-row.row-index c.loop-row.invariant.held (omega arith))

pub unpack_region-at-requires-clause-room : goal.unpack_region-at-requires-clause-room
unpack_region-at-requires-clause-room c =
    let same = ap (λ r. length (region_spots c.args.cut.now r)) c.crossing_of-region.ensures in
    let whole = ap (λ k. length (region_spots k c.crossing_of-region.result)) c.whole_of-whole.ensures in
    let room = down_room c.args.cut.now c.args.rows.now c.args.col.now c.loop-row.row-index (omega arith) in
    omega arith

pub loop-row-preserved : goal.loop-row-preserved
loop-row-preserved c =
    let cut = c.args.cut.now in
    let rows = c.args.rows.now in
    let col = c.args.col.now in
    let ws = c.args.words.now in
    let start = c.args.start in
    let i = c.loop-row.row-index in
    let region = c.crossing_of-region.result in
    let same = c.crossing_of-region.ensures in
    let whole = c.whole_of-whole.ensures in
    let done = spots cut (take i (down rows col)) in
    let next = region_spots cut (crossing (slice_index_or rows i no_span) col) in
    let more = down_length cut rows col i (omega arith) in
    let room = down_room cut rows col i (omega arith) in
    let size = ap (λ k. length (region_spots k region)) whole ∙ ap (λ r. length (region_spots cut r)) same in
    let after : c.unpack_region-at.new.array ≡ with_words c.args.array.now (spots cut (take (i + 1) (down rows col))) (take (length (spots cut (take (i + 1) (down rows col)))) (drop start ws)) =
    c.unpack_region-at.ensures.array
    ∙ ap (λ k. with_words c.loop-row.array (region_spots k region) (take (length (region_spots k region)) (drop c.loop-row.at ws))) whole
    ∙ ap (λ r. with_words c.loop-row.array (region_spots cut r) (take (length (region_spots cut r)) (drop c.loop-row.at ws))) same
    ∙ ap (λ (a : LocalCells). with_words a next (take (length next) (drop c.loop-row.at ws))) c.loop-row.invariant.array
    ∙ ap (λ n. with_words (with_words c.args.array.now done (take (length done) (drop start ws))) next (take (length next) (drop n ws))) c.loop-row.invariant.end
    ∙ writing_goes_on c.args.array.now done next ws start (omega arith)
    ∙ ap (λ ss. with_words c.args.array.now ss (take (length ss) (drop start ws))) (sym (down_more cut rows col i (omega arith))) in
    record {
      end = omega arith;
      array = after;
      limits = c.unpack_region-at.ensures.limits;
      held = subst (λ (a : LocalCells). AllInArray a (down rows col)) (sym after) (all_in_array_after c.args.array.now (spots cut (take (i + 1) (down rows col))) _ (down rows col) c.requires.array);
    }

pub returns-clause-end : goal.returns-clause-end
returns-clause-end c =
    c.loop-row.invariant.end ∙ ap (λ rs. c.args.start + length (spots c.args.cut.now rs)) (down_all c.args.rows.now c.args.col.now c.loop-row.row-index (omega arith))

pub returns-clause-array : goal.returns-clause-array
returns-clause-array c =
    c.loop-row.invariant.array ∙ ap (λ rs. with_words c.args.array.now (spots c.args.cut.now rs) (take (length (spots c.args.cut.now rs)) (drop c.args.start c.args.words.now))) (down_all c.args.rows.now c.args.col.now c.loop-row.row-index (omega arith))
