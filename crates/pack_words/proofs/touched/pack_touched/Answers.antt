-- The region is packed where the cut touches it.
use Rattle.std.proofs.Common.{◌≤◌, ◌+◌, ◌++◌, length, take, sym, ap, subst, ◌∙◌, arith}
use Rattle.std.proofs.lemmas.List.{append-nil}
use Rattle.pack_words.specs.Packing.{AllInCut, AllInArray, words_at}
use Rattle.pack_words.proofs.Touching.{touched_in, spots_in, spots_out}
use Rattle.pack_words.proofs.touched.pack_touched.Goals as goal

pub pack_region-requires-clause-cut : goal.pack_region-requires-clause-cut
pack_region-requires-clause-cut c =
    (subst (AllInCut c.args.cut.now) (touched_in c.args.by.now c.args.region.now (sym c.touches.ensures ∙ c.if-touches.true)) c.requires.cut).0

pub pack_region-requires-clause-array : goal.pack_region-requires-clause-array
pack_region-requires-clause-array c =
    (subst (AllInArray c.args.array.now) (touched_in c.args.by.now c.args.region.now (sym c.touches.ensures ∙ c.if-touches.true)) c.requires.array).0

pub pack_region-requires-clause-room : goal.pack_region-requires-clause-room
pack_region-requires-clause-room c =
    subst (λ ss. c.args.start + length ss ≤ length c.args.out.now) (spots_in c.args.cut.now c.args.by.now c.args.region.now (sym c.touches.ensures ∙ c.if-touches.true)) c.requires.room

pub returns-then-touches-clause-end : goal.returns-then-touches-clause-end
returns-then-touches-clause-end c =
    c.pack_region.ensures.end ∙ ap (λ ss. c.args.start + length ss) (sym (spots_in c.args.cut.now c.args.by.now c.args.region.now (sym c.touches.ensures ∙ c.if-touches.true)))

pub returns-then-touches-clause-words : goal.returns-then-touches-clause-words
returns-then-touches-clause-words c =
    c.pack_region.ensures.words ∙ ap (λ ss. take c.args.start c.args.out.now ++ words_at c.args.array.now ss) (sym (spots_in c.args.cut.now c.args.by.now c.args.region.now (sym c.touches.ensures ∙ c.if-touches.true)))

pub returns-clause-end : goal.returns-clause-end
returns-clause-end c =
    let none = ap length (spots_out c.args.cut.now c.args.by.now c.args.region.now (sym c.touches.ensures ∙ c.if-touches.false)) in
    omega arith

pub returns-clause-words : goal.returns-clause-words
returns-clause-words c =
    sym (append-nil (take c.args.start c.args.out.now))
    ∙ ap (λ ss. take c.args.start c.args.out.now ++ words_at c.args.array.now ss) (sym (spots_out c.args.cut.now c.args.by.now c.args.region.now (sym c.touches.ensures ∙ c.if-touches.false)))
