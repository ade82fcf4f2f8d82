-- A whole shape touches each rectangle.
use Rattle.std.proofs.Common.{◌≡◌, ◌≤◌, ◌+◌, ◌++◌, length, take, sym, ap, ◌∙◌, subst, rules}
use Rattle.pack_words.specs.declared.shape.Shape.TheVariants.{Ge}
use Rattle.pack_words.specs.Packing.{AllInCut, AllInArray, spots, words_at}
use Rattle.pack_words.proofs.RunSpots.{whole_down_touched}
use Rattle.pack_words.proofs.products.pack_down.Goals as goal

pub pack_whole_down-requires-clause-cut : goal.pack_whole_down-requires-clause-cut
pack_whole_down-requires-clause-cut c =
    let by : c.args.by.now.shape ≡ Ge = search rules in
    subst (AllInCut c.args.cut.now) (whole_down_touched c.args.by.now c.args.rows.now c.args.col.now by) c.requires.cut

pub pack_whole_down-requires-clause-array : goal.pack_whole_down-requires-clause-array
pack_whole_down-requires-clause-array c =
    let by : c.args.by.now.shape ≡ Ge = search rules in
    subst (AllInArray c.args.array.now) (whole_down_touched c.args.by.now c.args.rows.now c.args.col.now by) c.requires.array

pub pack_whole_down-requires-clause-room : goal.pack_whole_down-requires-clause-room
pack_whole_down-requires-clause-room c =
    let by : c.args.by.now.shape ≡ Ge = search rules in
    subst (λ rs. c.args.start + length (spots c.args.cut.now rs) ≤ length c.args.out.now) (whole_down_touched c.args.by.now c.args.rows.now c.args.col.now by) c.requires.room

pub returns-then-eq-2-clause-end : goal.returns-then-eq-2-clause-end
returns-then-eq-2-clause-end c =
    let by : c.args.by.now.shape ≡ Ge = search rules in
    c.pack_whole_down.ensures.end ∙ ap (λ rs. c.args.start + length (spots c.args.cut.now rs)) (sym (whole_down_touched c.args.by.now c.args.rows.now c.args.col.now by))

pub returns-then-eq-2-clause-words : goal.returns-then-eq-2-clause-words
returns-then-eq-2-clause-words c =
    let by : c.args.by.now.shape ≡ Ge = search rules in
    c.pack_whole_down.ensures.words ∙ ap (λ rs. take c.args.start c.args.out.now ++ words_at c.args.array.now (spots c.args.cut.now rs)) (sym (whole_down_touched c.args.by.now c.args.rows.now c.args.col.now by))
