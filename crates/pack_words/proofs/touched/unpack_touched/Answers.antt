-- The words go to the region where the cut touches it.
use Rattle.std.proofs.Common.{◌≤◌, ◌+◌, length, take, drop, sym, ap, subst, ◌∙◌, arith}
use Rattle.pack_words.specs.Packing.{AllInCut, AllInArray, with_words}
use Rattle.pack_words.proofs.Touching.{touched_in, spots_in, spots_out}
use Rattle.pack_words.proofs.touched.unpack_touched.Goals as goal

pub unpack_region-requires-clause-cut : goal.unpack_region-requires-clause-cut
unpack_region-requires-clause-cut c =
    (subst (AllInCut c.args.cut.now) (touched_in c.args.by.now c.args.region.now (sym c.touches.ensures ∙ c.if-touches.true)) c.requires.cut).0

pub unpack_region-requires-clause-array : goal.unpack_region-requires-clause-array
unpack_region-requires-clause-array c =
    (subst (AllInArray c.args.array.now) (touched_in c.args.by.now c.args.region.now (sym c.touches.ensures ∙ c.if-touches.true)) c.requires.array).0

pub unpack_region-requires-clause-room : goal.unpack_region-requires-clause-room
unpack_region-requires-clause-room c =
    subst (λ ss. c.args.start + length ss ≤ length c.args.words.now) (spots_in c.args.cut.now c.args.by.now c.args.region.now (sym c.touches.ensures ∙ c.if-touches.true)) c.requires.room

pub returns-then-touches-clause-end : goal.returns-then-touches-clause-end
returns-then-touches-clause-end c =
    c.unpack_region.ensures.end ∙ ap (λ ss. c.args.start + length ss) (sym (spots_in c.args.cut.now c.args.by.now c.args.region.now (sym c.touches.ensures ∙ c.if-touches.true)))

pub returns-then-touches-clause-array : goal.returns-then-touches-clause-array
returns-then-touches-clause-array c =
    c.unpack_region.ensures.array ∙ ap (λ ss. with_words c.args.array.now ss (take (length ss) (drop c.args.start c.args.words.now))) (sym (spots_in c.args.cut.now c.args.by.now c.args.region.now (sym c.touches.ensures ∙ c.if-touches.true)))

pub returns-clause-end : goal.returns-clause-end
returns-clause-end c =
    let none = ap length (spots_out c.args.cut.now c.args.by.now c.args.region.now (sym c.touches.ensures ∙ c.if-touches.false)) in
    omega arith

pub returns-clause-array : goal.returns-clause-array
returns-clause-array c =
    ap (λ ss. with_words c.args.array.now ss (take (length ss) (drop c.args.start c.args.words.now))) (sym (spots_out c.args.cut.now c.args.by.now c.args.region.now (sym c.touches.ensures ∙ c.if-touches.false)))
