-- One region more.
use Rattle.std.proofs.Common.{rules}
use Rattle.pack_words.specs.Packing.{IsInArray}
use Rattle.words_tests.proofs.Taking.{all_left, all_of_none}
use Rattle.words_tests.proofs.checks.in_array.Goals as goal

pub loop-region-preserved : goal.loop-region-preserved
loop-region-preserved c =
    let array = c.args.array.now in
    let here : IsInArray array c.in-Some.region = search rules in
    all_left (IsInArray array) c.args.regions.now c.loop-region.walk c.next.new.self c.in-Some.region c.in-Some.ensures c.loop-region.invariant here

pub returns : goal.returns
returns c = λ t. all_of_none (IsInArray c.args.array.now) c.args.regions.now c.loop-region.walk c.in_default.ensures c.loop-region.invariant
