-- A whole shape touches each rectangle.
use Rattle.std.proofs.Common.{◌≡◌, ◌≤◌, ◌+◌, length, take, drop, sym, ap, ◌∙◌, subst, rules}
use Rattle.pack_words.specs.declared.shape.Shape.TheVariants.{Ge}
use Rattle.pack_words.specs.Packing.{AllInCut, AllInArray, spots, with_words}
use Rattle.pack_words.proofs.RunSpots.{whole_down_touched}
use Rattle.pack_words.proofs.products.unpack_down.Goals as goal

pub unpack_whole_down-requires-clause-cut : goal.unpack_whole_down-requires-clause-cut
unpack_whole_down-requires-clause-cut c =
    let by : c.args.by.now.shape ≡ Ge = search rules in
    subst (AllInCut c.args.cut.now) (whole_down_touched c.args.by.now c.args.rows.now c.args.col.now by) c.requires.cut

pub unpack_whole_down-requires-clause-array : goal.unpack_whole_down-requires-clause-array
unpack_whole_down-requires-clause-array c =
    let by : c.args.by.now.shape ≡ Ge = search rules in
    subst (AllInArray c.args.array.now) (whole_down_touched c.args.by.now c.args.rows.now c.args.col.now by) c.requires.array

pub unpack_whole_down-requires-clause-room : goal.unpack_whole_down-requires-clause-room
unpack_whole_down-requires-clause-room c =
    let by : c.args.by.now.shape ≡ Ge = search rules in
    subst (λ rs. c.args.start + length (spots c.args.cut.now rs) ≤ length c.args.words.now) (whole_down_touched c.args.by.now c.args.rows.now c.args.col.now by) c.requires.room

pub returns-then-eq-2-clause-end : goal.returns-then-eq-2-clause-end
returns-then-eq-2-clause-end c =
    let by : c.args.by.now.shape ≡ Ge = search rules in
    c.unpack_whole_down.ensures.end ∙ ap (λ rs. c.args.start + length (spots c.args.cut.now rs)) (sym (whole_down_touched c.args.by.now c.args.rows.now c.args.col.now by))

pub returns-then-eq-2-clause-array : goal.returns-then-eq-2-clause-array
returns-then-eq-2-clause-array c =
    let by : c.args.by.now.shape ≡ Ge = search rules in
    c.unpack_whole_down.ensures.array ∙ ap (λ rs. with_words c.args.array.now (spots c.args.cut.now rs) (take (length (spots c.args.cut.now rs)) (drop c.args.start c.args.words.now))) (sym (whole_down_touched c.args.by.now c.args.rows.now c.args.col.now by))
