-- One more column.
use Rattle.std.proofs.Common.{◌≡◌, ◌+◌, length, take, drop, sym, ap, ◌∙◌, subst, arith}
use Rattle.pack_words.specs.LocalCells.{LocalCells}
use Rattle.pack_words.specs.Packing.{IsInArray, column_spots, with_words}
use Rattle.pack_words.proofs.Going.{spots_before, before_more, before_length, before_room, before_all, writing_goes_on, in_array_after}
use Rattle.pack_words.proofs.packing.unpack_region.Goals as goal

pub unpack_column-at-requires-clause-room : goal.unpack_column-at-requires-clause-room
unpack_column-at-requires-clause-room c =
    let room = before_room c.args.cut.now c.args.region.now c.loop-v.v (omega arith) in
    omega arith

pub loop-v-preserved : goal.loop-v-preserved
loop-v-preserved c =
    let cut = c.args.cut.now in
    let region = c.args.region.now in
    let ws = c.args.words.now in
    let done = spots_before cut region c.loop-v.v in
    let next = column_spots cut region c.loop-v.v in
    let more = before_length cut region c.loop-v.v in
    let room = before_room cut region c.loop-v.v (omega arith) in
    let after : c.unpack_column-at.new.array ≡ with_words c.args.array.now (spots_before cut region (c.loop-v.v + 1)) (take (length (spots_before cut region (c.loop-v.v + 1))) (drop c.args.start ws)) =
    c.unpack_column-at.ensures.array
    ∙ ap (λ a. with_words a next (take (length next) (drop c.loop-v.at ws))) c.loop-v.invariant.array
    ∙ ap (λ n. with_words (with_words c.args.array.now done (take (length done) (drop c.args.start ws))) next (take (length next) (drop n ws))) c.loop-v.invariant.end
    ∙ writing_goes_on c.args.array.now done next ws c.args.start (omega arith)
    ∙ ap (λ ss. with_words c.args.array.now ss (take (length ss) (drop c.args.start ws))) (sym (before_more cut region c.loop-v.v)) in
    record {
      end = omega arith;
      array = after;
      limits = c.unpack_column-at.ensures.limits;
      held = subst (λ (a : LocalCells). IsInArray a region) (sym c.unpack_column-at.ensures.array) (in_array_after c.loop-v.array next _ region c.loop-v.invariant.held);
    }

pub returns-clause-end : goal.returns-clause-end
returns-clause-end c = c.loop-v.invariant.end ∙ ap (λ ss. c.args.start + length ss) (before_all c.args.cut.now c.args.region.now c.loop-v.v (omega arith))

pub returns-clause-array : goal.returns-clause-array
returns-clause-array c = c.loop-v.invariant.array ∙ ap (λ ss. with_words c.args.array.now ss (take (length ss) (drop c.args.start c.args.words.now))) (before_all c.args.cut.now c.args.region.now c.loop-v.v (omega arith))
