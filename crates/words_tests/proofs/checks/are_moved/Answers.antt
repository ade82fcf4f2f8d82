-- One region more.
use Rattle.std.proofs.Common.{length, ap, arith, rules}
use Rattle.pack_words.specs.Packing.{IsInCut, spots}
use Rattle.pack_words.proofs.Areas.{region_area}
use Rattle.words_tests.proofs.Taking.{all_left, all_of_none, spots_left, spots_of_none}
use Rattle.words_tests.proofs.checks.are_moved.Goals as goal

pub loop-region-preserved : goal.loop-region-preserved
loop-region-preserved c =
    let cut = c.args.cut.now in
    let here : IsInCut cut c.in-Some.region = search rules in
    let area = region_area cut c.in-Some.region in
    let more = spots_left cut c.loop-region.walk c.next.new.self c.in-Some.region c.in-Some.ensures in
    record {
      in_cut = all_left (IsInCut cut) c.args.regions.now c.loop-region.walk c.next.new.self c.in-Some.region c.in-Some.ensures c.loop-region.invariant.in_cut here;
      few = let f = c.loop-region.invariant.few in omega arith;
      most = omega arith;
    }

pub returns : goal.returns
returns c =
    let cut = c.args.cut.now in
    let none = spots_of_none cut c.loop-region.walk c.in_default.ensures in
    λ t. record {
      in_cut = all_of_none (IsInCut cut) c.args.regions.now c.loop-region.walk c.in_default.ensures c.loop-region.invariant.in_cut;
      most = let f = c.loop-region.invariant.few in let m = c.loop-region.invariant.most in omega arith;
    }
