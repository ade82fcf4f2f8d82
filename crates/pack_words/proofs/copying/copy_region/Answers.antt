-- One more column.
use Rattle.std.proofs.Common.{◌≡◌, ◌+◌, ◌++◌, sym, ap, ◌∙◌, subst, arith}
use Rattle.pack_words.specs.LocalCells.{LocalCells}
use Rattle.pack_words.specs.Packing.{IsInArray, column_spots, region_spots, words_at, with_words}
use Rattle.pack_words.proofs.Going.{spots_before, before_more, before_all, in_array_after}
use Rattle.pack_words.proofs.CopyLaws.{alike_before, copying_goes_on}
use Rattle.pack_words.proofs.copying.copy_region.Goals as goal

pub loop-v-preserved : goal.loop-v-preserved
loop-v-preserved c =
    let cut = c.args.cut.now in
    let source = c.args.source.now in
    let target = c.args.target.now in
    let from = c.args.from.now in
    let to = c.args.to.now in
    let v = c.loop-v.v in
    let next = column_spots cut target v in
    let after : c.copy_column.new.to ≡ with_words to (spots_before cut target (v + 1)) (words_at from (spots_before cut source (v + 1))) =
    c.copy_column.ensures.array
    ∙ ap (λ a. with_words a next (words_at from (column_spots cut source v))) c.loop-v.invariant.array
    ∙ copying_goes_on from to (spots_before cut source v) (column_spots cut source v) (spots_before cut target v) next (alike_before cut source target v c.requires.alike)
    ∙ ap (λ ss. with_words to ss (words_at from (spots_before cut source v ++ column_spots cut source v))) (sym (before_more cut target v))
    ∙ ap (λ ss. with_words to (spots_before cut target (v + 1)) (words_at from ss)) (sym (before_more cut source v)) in
    record {
      array = after;
      limits = c.copy_column.ensures.limits;
      held = subst (λ (a : LocalCells). IsInArray a target) (sym c.copy_column.ensures.array) (in_array_after c.loop-v.to next _ target c.loop-v.invariant.held);
    }

pub returns-clause-array : goal.returns-clause-array
returns-clause-array c =
    let cut = c.args.cut.now in
    let source = c.args.source.now in
    let target = c.args.target.now in
    let cols = c.requires.alike.cols in
    c.loop-v.invariant.array
    ∙ ap (λ ss. with_words c.args.to.now ss (words_at c.args.from.now (spots_before cut source c.loop-v.v))) (before_all cut target c.loop-v.v (omega arith))
    ∙ ap (λ ss. with_words c.args.to.now (region_spots cut target) (words_at c.args.from.now ss)) (before_all cut source c.loop-v.v (omega arith))
