-- One more row run.
use Rattle.std.proofs.Common.{◌≡◌, ◌+◌, length, take, drop, sym, ap, ◌∙◌, arith, subst}
use Rattle.pack_words.specs.declared.region.Region.{Region}
use Rattle.pack_words.specs.LocalCells.{LocalCells}
use Rattle.pack_words.specs.Packing.{IsInCut, IsInArray, AllInCut, AllInArray, spots, with_words}
use Rattle.pack_words.specs.Products.{touched, touched_down}
use Rattle.pack_words.proofs.Going.{writing_goes_on, all_in_array_after}
use Rattle.pack_words.proofs.Touching.{touched_before, touched_at, next_spots, next_length, next_room, all_touched, before_none, before_all}
use Rattle.pack_words.proofs.products.unpack_touched_down.Goals as goal

pub loop-row-init : goal.loop-row-init
loop-row-init c =
    let nothing = before_none c.args.cut.now c.args.by.now c.args.rows.now c.args.col.now in
    let none = ap length nothing in
    record {
      end = omega arith;
      array = ap (λ ss. with_words c.args.array.now ss (take (length ss) (drop c.args.start c.args.words.now))) (sym nothing);
      limits = c.requires.limits;
      held = c.requires.array;
    }

pub unpack_touched-at-requires-clause-cut : goal.unpack_touched-at-requires-clause-cut
unpack_touched-at-requires-clause-cut c =
    subst (λ (r : Region). AllInCut c.args.cut.now (touched c.args.by.now r)) (sym c.crossing_of-region.ensures) (all_touched (IsInCut c.args.cut.now) c.args.by.now c.args.rows.now c.args.col.now c.loop-row.row-index c.requires.cut (omega arith))

pub unpack_touched-at-requires-clause-array : goal.unpack_touched-at-requires-clause-array
unpack_touched-at-requires-clause-array c =
    subst (λ (r : Region). AllInArray c.loop-row.array (touched c.args.by.now r)) (sym c.crossing_of-region.ensures) (all_touched (IsInArray c.loop-row.array) c.args.by.now c.args.rows.now c.args.col.now c.loop-row.row-index c.loop-row.invariant.held (omega arith))

pub unpack_touched-at-requires-clause-room : goal.unpack_touched-at-requires-clause-room
unpack_touched-at-requires-clause-room c =
    let size = ap (λ r. length (spots c.args.cut.now (touched c.args.by.now r))) c.crossing_of-region.ensures in
    let room = next_room c.args.cut.now c.args.by.now c.args.rows.now c.args.col.now c.loop-row.row-index (omega arith) in
    omega arith

pub loop-row-preserved : goal.loop-row-preserved
loop-row-preserved c =
    let cut = c.args.cut.now in
    let by = c.args.by.now in
    let rows = c.args.rows.now in
    let col = c.args.col.now in
    let ws = c.args.words.now in
    let start = c.args.start in
    let i = c.loop-row.row-index in
    let same = c.crossing_of-region.ensures in
    let done = spots cut (touched_before by rows col i) in
    let next = spots cut (touched_at by rows col i) in
    let more = next_length cut by rows col i (omega arith) in
    let room = next_room cut by rows col i (omega arith) in
    let size = ap (λ r. length (spots cut (touched by r))) same in
    let after : c.unpack_touched-at.new.array ≡ with_words c.args.array.now (spots cut (touched_before by rows col (i + 1))) (take (length (spots cut (touched_before by rows col (i + 1)))) (drop start ws)) =
    c.unpack_touched-at.ensures.array
    ∙ ap (λ r. with_words c.loop-row.array (spots cut (touched by r)) (take (length (spots cut (touched by r))) (drop c.loop-row.at ws))) same
    ∙ ap (λ a. with_words a next (take (length next) (drop c.loop-row.at ws))) c.loop-row.invariant.array
    ∙ ap (λ n. with_words (with_words c.args.array.now done (take (length done) (drop start ws))) next (take (length next) (drop n ws))) c.loop-row.invariant.end
    ∙ writing_goes_on c.args.array.now done next ws start (omega arith)
    ∙ ap (λ ss. with_words c.args.array.now ss (take (length ss) (drop start ws))) (sym (next_spots cut by rows col i (omega arith))) in
    record {
      end = omega arith;
      array = after;
      limits = c.unpack_touched-at.ensures.limits;
      held = subst (λ (a : LocalCells). AllInArray a (touched_down by rows col)) (sym c.unpack_touched-at.ensures.array) (all_in_array_after c.loop-row.array (spots cut (touched by c.crossing_of-region.result)) _ (touched_down by rows col) c.loop-row.invariant.held);
    }

pub returns-clause-end : goal.returns-clause-end
returns-clause-end c =
    c.loop-row.invariant.end ∙ ap (λ rs. c.args.start + length (spots c.args.cut.now rs)) (before_all c.args.by.now c.args.rows.now c.args.col.now c.loop-row.row-index (omega arith))

pub returns-clause-array : goal.returns-clause-array
returns-clause-array c =
    c.loop-row.invariant.array ∙ ap (λ rs. with_words c.args.array.now (spots c.args.cut.now rs) (take (length (spots c.args.cut.now rs)) (drop c.args.start c.args.words.now))) (before_all c.args.by.now c.args.rows.now c.args.col.now c.loop-row.row-index (omega arith))
