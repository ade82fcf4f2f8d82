-- The region is counted where the cut touches it.
use Rattle.std.proofs.Common.{◌≤◌, ◌^◌, length, sym, ap, subst, ◌∙◌}
use Rattle.pack_words.specs.Packing.{AllInCut}
use Rattle.pack_words.proofs.Touching.{touched_in, spots_in, spots_out}
use Rattle.pack_words.proofs.touched.count_touched.Goals as goal

pub count_region-requires-clause-cut : goal.count_region-requires-clause-cut
count_region-requires-clause-cut c =
    (subst (AllInCut c.args.cut.now) (touched_in c.args.by.now c.args.region.now (sym c.touches.ensures ∙ c.if-touches.true)) c.requires.cut).0

pub count_region-requires-clause-count : goal.count_region-requires-clause-count
count_region-requires-clause-count c =
    subst (λ ss. length ss ≤ 2 ^ 26) (spots_in c.args.cut.now c.args.by.now c.args.region.now (sym c.touches.ensures ∙ c.if-touches.true)) c.requires.few

pub returns-then-touches : goal.returns-then-touches
returns-then-touches c =
    c.count_region.ensures ∙ ap length (sym (spots_in c.args.cut.now c.args.by.now c.args.region.now (sym c.touches.ensures ∙ c.if-touches.true)))

pub returns : goal.returns
returns c = ap length (sym (spots_out c.args.cut.now c.args.by.now c.args.region.now (sym c.touches.ensures ∙ c.if-touches.false)))
