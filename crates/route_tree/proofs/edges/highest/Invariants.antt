use Rattle.std.proofs.Common.{◌≡◌, ℕ, ◌-◌, ◌^◌, ◌<◌, ◌≤◌}
use Rattle.route_tree.proofs.edges.highest.Given as goal

abbrev pub invariant-loop-bit : goal.invariant-loop-bit
invariant-loop-bit l = record {
  power : (e : ℕ) × (l.bit ≡ 2 ^ e);
  reached : l.bit ≤ l.k;
  some : 0 < l.bit;
}

abbrev pub decreases-loop-bit : goal.decreases-loop-bit
decreases-loop-bit l = l.k - l.bit
