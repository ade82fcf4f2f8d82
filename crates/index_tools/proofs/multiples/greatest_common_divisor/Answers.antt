use Rattle.std.proofs.Common.{arith}
use Rattle.std.proofs.lemmas.Nat.Gcd.{IsGcd-from_zero, IsGcd-from_mod}
use Rattle.index_tools.proofs.MultiplesLemmas.{Scales-first, Scales-second, Scales-mod}
use Rattle.index_tools.proofs.multiples.greatest_common_divisor.Goals as goal

pub loop-smaller-init : goal.loop-smaller-init
loop-smaller-init c = record { some = omega arith; kept = λ g h. h; larger_scales = Scales-first _ _; smaller_scales = Scales-second _ _ }

pub loop-smaller-preserved : goal.loop-smaller-preserved
loop-smaller-preserved c = record {
  some = omega arith;
  kept = λ g h. c.loop-smaller.invariant.kept g (IsGcd-from_mod _ _ g h);
  larger_scales = c.loop-smaller.invariant.smaller_scales;
  smaller_scales = Scales-mod _ _ _ _ c.loop-smaller.invariant.larger_scales c.loop-smaller.invariant.smaller_scales;
}

pub returns-clause-greatest : goal.returns-clause-greatest
returns-clause-greatest c = c.loop-smaller.invariant.kept _ (IsGcd-from_zero _ _ (omega arith))
