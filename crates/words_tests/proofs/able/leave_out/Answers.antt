-- One more region.
use Rattle.std.proofs.Common.{arith, rules, slice_index_or}
use Rattle.pack_words.specs.Packing.{no_region, AreApart}
use Rattle.words_tests.proofs.Taking.{all_take}
use Rattle.words_tests.proofs.able.leave_out.Goals as goal

pub loop-k-preserved : goal.loop-k-preserved
loop-k-preserved c =
    let region = c.args.region.now in
    let regions = c.args.regions.now in
    let here : AreApart (slice_index_or regions c.loop-k.k no_region) region = search rules in
    all_take (λ r. AreApart r region) regions c.loop-k.k no_region (omega arith) c.loop-k.invariant here
