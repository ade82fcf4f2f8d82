-- Every row run meets every column run, where the cut touches their rectangle.
use Rattle.std.proofs.Common.{◌≡◌, ◌∙◌, List}
use Rattle.std.proofs.lemmas.Result.{IfOk-weaker}
use Rattle.pack_words.specs.declared.region.Region.{Region}
use Rattle.pack_words.specs.Products.{touched_product}
use Rattle.mr2d.proofs.RegionLaws.{crossed_spans}
use Rattle.mr2d.proofs.parts.regions.Goals as goal

pub returns : goal.returns
returns c =
    IfOk-weaker c.crossed.result (λ (regions : List Region). regions ≡ touched_product c.args.cut.now c.in_ok-rows.rows.items c.in_ok-columns.columns.items) _
    (λ regions e. e ∙ crossed_spans c.args.end c.args.cut.now _ _ _ _ c.args.runs.now.rows.items c.args.runs.now.columns.items c.in_ok-rows.ensures c.in_ok-columns.ensures c.deref.ensures.value c.deref-2.ensures.value) c.crossed.ensures
