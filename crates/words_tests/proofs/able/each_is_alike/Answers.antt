-- One more pair.
use Rattle.std.proofs.Common.{arith, rules, slice_index_or}
use Rattle.pack_words.specs.Packing.{no_region, IsAlike}
use Rattle.words_tests.proofs.Taking.{alike_take}
use Rattle.words_tests.proofs.able.each_is_alike.Goals as goal

pub loop-k-preserved : goal.loop-k-preserved
loop-k-preserved c =
    let sources = c.args.sources.now in
    let targets = c.args.targets.now in
    let k = c.loop-k.k in
    let here : IsAlike (slice_index_or sources k no_region) (slice_index_or targets k no_region) = search rules in
    alike_take sources targets k no_region (omega arith) (omega arith) c.loop-k.invariant here
