-- Laws of the tree of each topology: a parent comes before its child in sending order, and each member has one.
use Rattle.std.proofs.Common.{◌≡◌, ℕ, zero, suc, ◌+◌, ◌-◌, ◌/◌, ◌^◌, ◌<◌, ◌≤◌, true, false, refl, arith, inl, inr, ◌⊎◌}
use Rattle.std.specs.Prelude.{nat_lt}
use Rattle.std.proofs.Math.Nat.{pow-suc, div-le_self}
use Rattle.std.proofs.lemmas.Nat.{pow_pos, pow_below}
use Rattle.std.proofs.lemmas.Bool.{cases_lt}
use Rattle.std.proofs.lemmas.Bool.Decides.{eqb_tells, leb_tells}
use Rattle.route_tree.specs.declared.top.Top.{Top}
use Rattle.route_tree.specs.declared.top.Top.TheVariants.{I, D, S, H, F, M, T}
use Rattle.route_tree.specs.Parents.{power_below, parent_of, number_of, HasBranches}

pub less_tells : (a b : ℕ) → ((nat_lt a b ≡ true) × (a < b)) ⊎ ((nat_lt a b ≡ false) × (b ≤ a))
less_tells a b = elim (leb_tells (suc a) b) [ inl holds ↦ inl (holds.0, omega (arith, holds.1)) | inr fails ↦ inr (fails.0, omega (arith, fails.1)) ]

-- ---- the highest binary one

pub power_pos : (e k : ℕ) → 0 < power_below e k
unfolding power_below
power_pos zero k = omega arith
power_pos (suc e) k = elim (leb_tells (2 ^ suc e) k) [
  | inl in_k ↦ rw in_k.0 (pow_pos (suc e))
  | inr above ↦ rw above.0 (power_pos e k)
]

pub power_le : (e k : ℕ) → 0 < k → power_below e k ≤ k
unfolding power_below
power_le zero k lt = omega arith
power_le (suc e) k lt = elim (leb_tells (2 ^ suc e) k) [
  | inl in_k ↦ rw in_k.0 in_k.1
  | inr above ↦ rw above.0 (power_le e k lt)
]

-- it is the one power of two that k reaches and whose double k doesn't reach
pub power_is : (e f k : ℕ) → f ≤ e → 2 ^ f ≤ k → k < 2 ^ f + 2 ^ f → power_below e k ≡ 2 ^ f
unfolding power_below
power_is zero f k le low high = let none : f ≡ 0 = omega arith in rw none refl
power_is (suc e) f k le low high = elim (leb_tells (2 ^ suc e) k) [
  | inl in_k ↦ elim (cases_lt f (suc e)) [
    | inl lt ↦ absurd (too_high (cases_lt (suc f) (suc e)) lt in_k.1)
    | inr ge ↦ let same : f ≡ suc e = omega arith in rw (in_k.0, same) refl
  ]
  | inr above ↦ elim (cases_lt f (suc e)) [
    | inl lt ↦ rw above.0 (power_is e f k (omega arith) low high)
    | inr ge ↦ absurd (let same : f ≡ suc e = omega arith in clash (rw same at low) above.1)
  ]
]
  where
    clash : 2 ^ suc e ≤ k → k < 2 ^ suc e → ⊥
    clash a b = omega arith

    double : 2 ^ suc f ≡ 2 ^ f + 2 ^ f
    double = let p = pow-suc 2 f in omega arith

    too_high : (suc f < suc e) ⊎ (suc e ≤ suc f) → f < suc e → 2 ^ suc e ≤ k → ⊥
    too_high (inl lt) below reaches = let p = pow_below (suc f) (suc e) lt in let d = double in omega arith
    too_high (inr ge) below reaches = let same : e ≡ f = omega arith in let r : 2 ^ suc f ≤ k = rw same at reaches in let d = double in omega arith

-- ---- numbers in sending order

pub number_back : (top : Top) (n i : ℕ) → i < n → number_of top n (number_of top n i) ≡ i
number_back S n i lt = elim (less_tells (n / 2) i) [
  | inl down ↦
      let again : n / 2 < n + n / 2 - i = let d = down.1 in omega arith in
      elim (less_tells (n / 2) (n + n / 2 - i)) [
        | inl holds ↦ rw (down.0, holds.0) (let d = down.1 in omega arith)
        | inr fails ↦ absurd (let f = fails.1 in omega arith)
      ]
  | inr up ↦ rw (up.0, up.0) refl
]
number_back I n i lt = refl
number_back D n i lt = refl
number_back H n i lt = refl
number_back F n i lt = refl
number_back M n i lt = refl
number_back (T b) n i lt = refl

pub number_in : (top : Top) (n i : ℕ) → 0 < i → i < n → (0 < number_of top n i) × (number_of top n i < n)
number_in S n i pos lt = elim (less_tells (n / 2) i) [
  | inl down ↦ rw down.0 (let d = down.1 in (omega arith, omega arith))
  | inr up ↦ rw up.0 (pos, lt)
]
number_in I n i pos lt = (pos, lt)
number_in D n i pos lt = (pos, lt)
number_in H n i pos lt = (pos, lt)
number_in F n i pos lt = (pos, lt)
number_in M n i pos lt = (pos, lt)
number_in (T b) n i pos lt = (pos, lt)

pub number_zero : (top : Top) (n : ℕ) → number_of top n 0 ≡ 0
number_zero S n = elim (less_tells (n / 2) 0) [ inl down ↦ absurd (let d = down.1 in omega arith) | inr up ↦ rw up.0 refl ]
number_zero I n = refl
number_zero D n = refl
number_zero H n = refl
number_zero F n = refl
number_zero M n = refl
number_zero (T b) n = refl

-- ---- parents

quotient_le : (a b : ℕ) → 1 ≤ b → a / b ≤ a
quotient_le a b le = div-le_self a b

pub parent_in : (top : Top) (n k : ℕ) → HasBranches top → 0 < k → k < n → parent_of top n k < n
parent_in I n k ok pos lt = omega arith
parent_in D n k ok pos lt = omega arith
parent_in H n k ok pos lt = omega arith
parent_in F n k ok pos lt = omega arith
parent_in (T b) n k ok pos lt = let q = quotient_le (k - 1) b ok.0 in omega arith
parent_in M n k ok pos lt = elim (eqb_tells k (n / 2 + 1)) [ inl half ↦ rw half.0 (omega arith) | inr other ↦ rw other.0 (omega arith) ]
parent_in S n k ok pos lt = elim (leb_tells k (n / 2)) [
  | inl up ↦ rw up.0 (omega arith)
  | inr down ↦ elim (eqb_tells k (n - 1)) [ inl last ↦ rw (down.0, last.0) (omega arith) | inr other ↦ rw (down.0, other.0) (let ne = other.1 in omega arith) ]
]

-- the parent comes before its child in sending order, the source before all
pub parent_earlier : (top : Top) (n k : ℕ) → HasBranches top → 0 < k → k < n → number_of top n (parent_of top n k) < number_of top n k
parent_earlier I n k ok pos lt = omega arith
parent_earlier D n k ok pos lt = omega arith
parent_earlier H n k ok pos lt = let p = power_pos 31 k in omega arith
parent_earlier F n k ok pos lt = pos
parent_earlier (T b) n k ok pos lt = let q = quotient_le (k - 1) b ok.0 in omega arith
parent_earlier M n k ok pos lt = elim (eqb_tells k (n / 2 + 1)) [ inl half ↦ rw half.0 pos | inr other ↦ rw other.0 (omega arith) ]
parent_earlier S n k ok pos lt = elim (leb_tells k (n / 2)) [
  | inl up ↦
      let le = up.1 in
      elim (less_tells (n / 2) k) [
        | inl fails ↦ absurd (let f = fails.1 in omega arith)
        | inr holds ↦ elim (less_tells (n / 2) (k - 1)) [ inl fails ↦ absurd (let f = fails.1 in omega arith) | inr both ↦ rw (up.0, holds.0, both.0) (omega arith) ]
      ]
  | inr down ↦
      let above = down.1 in
      elim (less_tells (n / 2) k) [
        | inl holds ↦ elim (eqb_tells k (n - 1)) [
          | inl last ↦ rw (down.0, last.0, number_zero S n, holds.0) (omega arith)
          | inr other ↦
              let ne = other.1 in
              elim (less_tells (n / 2) (k + 1)) [ inl too ↦ rw (down.0, other.0, holds.0, too.0) (omega arith) | inr fails ↦ absurd (let f = fails.1 in omega arith) ]
        ]
        | inr fails ↦ absurd (let f = fails.1 in omega arith)
      ]
]
