use Rattle.std.proofs.Common.{◌≡◌, ℕ, ◌+◌, ◌*◌, ◌^◌, ◌<◌, ◌≤◌, ap, sym, ◌∙◌, arith, inl, inr}
use Rattle.std.proofs.Math.Nat.{pow-le-pow_right}
use Rattle.std.proofs.lemmas.Bool.{cases_lt}
use Rattle.std.proofs.lemmas.Grind.{pow_more}
use Rattle.route_tree.proofs.ParentLaws.{power_is}
use Rattle.route_tree.proofs.edges.highest.Goals as goal

pub loop-bit-preserved : goal.loop-bit-preserved
loop-bit-preserved c = record {
  power = let p = c.loop-bit.invariant.power in (p.0 + 1, ap (λ b. b * 2) p.1 ∙ sym (pow_more 2 p.0));
  reached = omega arith;
  some = omega arith;
}

below_32 : (e k : ℕ) → 2 ^ e ≤ k → k < 2 ^ 32 → e ≤ 31
below_32 e k low high = elim (cases_lt e 32) [ inl lt ↦ omega arith | inr le ↦ absurd (let p : 2 ^ 32 ≤ 2 ^ e = pow-le-pow_right (omega arith) le in omega arith) ]

pub returns-clause-value : goal.returns-clause-value
returns-clause-value c =
    let p = c.loop-bit.invariant.power in
    let e : ℕ = p.0 in
    let is : c.loop-bit.bit ≡ 2 ^ p.0 = p.1 in
    let past : c.args.k < c.loop-bit.bit * 2 = omega arith in
    is ∙ sym (power_is 31 p.0 c.args.k (below_32 p.0 c.args.k (omega arith) (omega arith)) (omega arith) (omega arith))
