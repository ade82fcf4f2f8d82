-- One more row run.
use Rattle.std.proofs.Common.{◌+◌, ◌++◌, length, take, sym, ap, ◌∙◌, arith, subst}
use Rattle.std.proofs.lemmas.List.{append-nil}
use Rattle.pack_words.specs.declared.region.Region.{Region}
use Rattle.pack_words.specs.Packing.{IsInCut, IsInArray, AllInCut, AllInArray, spots, words_at}
use Rattle.pack_words.specs.Products.{touched}
use Rattle.pack_words.proofs.Going.{words_go_on}
use Rattle.pack_words.proofs.Touching.{touched_before, touched_at, next_spots, next_length, next_room, all_touched, before_none, before_all}
use Rattle.pack_words.proofs.products.pack_touched_down.Goals as goal

pub loop-row-preserved : goal.loop-row-preserved
loop-row-preserved c =
    let cut = c.args.cut.now in
    let by = c.args.by.now in
    let rows = c.args.rows.now in
    let col = c.args.col.now in
    let i = c.loop-row.row-index in
    let same = c.crossing_of-region.ensures in
    let more = next_length cut by rows col i (omega arith) in
    let size = ap (λ r. length (spots cut (touched by r))) same in
    record {
      end = omega arith;
      words = words_go_on c.args.array.now (spots cut (touched_before by rows col i)) (spots cut (touched_at by rows col i)) (take c.args.start c.args.out.now) (take c.loop-row.at c.loop-row.out) (take c.pack_touched-at.result c.pack_touched-at.new.out) c.loop-row.invariant.words
          (c.pack_touched-at.ensures.words ∙ ap (λ r. take c.loop-row.at c.loop-row.out ++ words_at c.args.array.now (spots cut (touched by r))) same)
          ∙ ap (λ ss. take c.args.start c.args.out.now ++ words_at c.args.array.now ss) (sym (next_spots cut by rows col i (omega arith)));
    }

pub loop-row-init : goal.loop-row-init
loop-row-init c =
    let nothing = before_none c.args.cut.now c.args.by.now c.args.rows.now c.args.col.now in
    let none = ap length nothing in
    record {
      end = omega arith;
      words = sym (append-nil (take c.args.start c.args.out.now)) ∙ ap (λ ss. take c.args.start c.args.out.now ++ words_at c.args.array.now ss) (sym nothing);
    }

pub pack_touched-at-requires-clause-cut : goal.pack_touched-at-requires-clause-cut
pack_touched-at-requires-clause-cut c =
    subst (λ (r : Region). AllInCut c.args.cut.now (touched c.args.by.now r)) (sym c.crossing_of-region.ensures) (all_touched (IsInCut c.args.cut.now) c.args.by.now c.args.rows.now c.args.col.now c.loop-row.row-index c.requires.cut (omega arith))

pub pack_touched-at-requires-clause-array : goal.pack_touched-at-requires-clause-array
pack_touched-at-requires-clause-array c =
    subst (λ (r : Region). AllInArray c.args.array.now (touched c.args.by.now r)) (sym c.crossing_of-region.ensures) (all_touched (IsInArray c.args.array.now) c.args.by.now c.args.rows.now c.args.col.now c.loop-row.row-index c.requires.array (omega arith))

pub pack_touched-at-requires-clause-room : goal.pack_touched-at-requires-clause-room
pack_touched-at-requires-clause-room c =
    let size = ap (λ r. length (spots c.args.cut.now (touched c.args.by.now r))) c.crossing_of-region.ensures in
    let room = next_room c.args.cut.now c.args.by.now c.args.rows.now c.args.col.now c.loop-row.row-index (omega arith) in
    omega arith

pub returns-clause-end : goal.returns-clause-end
returns-clause-end c =
    c.loop-row.invariant.end ∙ ap (λ rs. c.args.start + length (spots c.args.cut.now rs)) (before_all c.args.by.now c.args.rows.now c.args.col.now c.loop-row.row-index (omega arith))

pub returns-clause-words : goal.returns-clause-words
returns-clause-words c =
    c.loop-row.invariant.words ∙ ap (λ rs. take c.args.start c.args.out.now ++ words_at c.args.array.now (spots c.args.cut.now rs)) (before_all c.args.by.now c.args.rows.now c.args.col.now c.loop-row.row-index (omega arith))
