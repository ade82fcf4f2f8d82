use Rattle.std.proofs.Common.{ℕ, ◌<◌}
use Rattle.std.specs.Int.{IsGcd}
use Rattle.index_tools.specs.Multiples.{Scales}
use Rattle.index_tools.proofs.multiples.greatest_common_divisor.Given as goal

abbrev pub invariant-loop-smaller : goal.invariant-loop-smaller
invariant-loop-smaller l = record {
  some : 0 < l.larger;
  kept : (g : ℕ) → IsGcd l.larger l.smaller g → IsGcd l.m l.n g;
  larger_scales : Scales l.m l.n l.larger;
  smaller_scales : Scales l.m l.n l.smaller;
}

abbrev pub decreases-loop-smaller : goal.decreases-loop-smaller
decreases-loop-smaller l = l.smaller
