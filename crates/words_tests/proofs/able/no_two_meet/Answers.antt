-- One more region.
use Rattle.std.specs.List.{AllByRecursion}
use Rattle.std.proofs.Common.{arith, rules, take, slice_index_or}
use Rattle.pack_words.specs.Packing.{no_region, AreApart}
use Rattle.words_tests.proofs.Taking.{apart_take}
use Rattle.words_tests.proofs.able.no_two_meet.Goals as goal

pub loop-k-preserved : goal.loop-k-preserved
loop-k-preserved c =
    let regions = c.args.regions.now in
    let k = c.loop-k.k in
    let here : AllByRecursion (λ r. AreApart r (slice_index_or regions k no_region)) (take k regions) = search rules in
    apart_take regions k no_region (omega arith) c.loop-k.invariant here
