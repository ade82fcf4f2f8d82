-- Sums and products modulo 2^32.
use Rattle.std.specs.Prelude.{◌≡◌, ℕ, ◌+◌, ◌*◌, ◌%◌, ◌^◌, ◌<◌, ℤ, pos, ◌+ℤ◌, ◌*ℤ◌, FitsSigned}
use Rattle.std.specs.Int.{int_wrap, w32}
use Rattle.std.proofs.Common.{refl, sym, ap, ◌∙◌, arith, to_z, of_z}
use Rattle.std.proofs.Math.Nat.{mod-eq_of_lt}
use Rattle.std.proofs.Math.IntN.{+ℤ_assoc, +ℤ_comm}
use Rattle.std.proofs.lemmas.Int.{wrapping_mul_is, int_wrap-add_left, int_wrap-add_right, int_wrap-mul_right}

wrapped : (n : ℕ) → n < 2 ^ 32 → to_z w32 n ≡ int_wrap w32 (pos n)
unfolding int_wrap
wrapped n lt = ap (to_z w32) (sym (mod-eq_of_lt lt))

pub product_is : (b s : ℤ) (n : ℕ) → FitsSigned w32 b → FitsSigned w32 s → n < 2 ^ 32 → s ≡ to_z w32 n → to_z w32 (of_z w32 b * of_z w32 s % 4294967296) ≡ int_wrap w32 (b *ℤ pos n)
product_is b s n f g lt e = wrapping_mul_is w32 b s f g ∙ ap (λ x. int_wrap w32 (b *ℤ x)) (e ∙ wrapped n lt) ∙ int_wrap-mul_right w32 b (pos n)

-- two terms in the other order
turned : (a x y : ℤ) → (a +ℤ x) +ℤ y ≡ (a +ℤ y) +ℤ x
turned a x y = +ℤ_assoc a x y ∙ ap (λ z. a +ℤ z) (+ℤ_comm x y) ∙ sym (+ℤ_assoc a y x)

-- a sum of three terms, the third added first
pub sum_of_three : (a x y first : ℤ) → first ≡ int_wrap w32 (a +ℤ y) → int_wrap w32 (first +ℤ x) ≡ int_wrap w32 ((a +ℤ x) +ℤ y)
sum_of_three a x y first e = ap (λ f. int_wrap w32 (f +ℤ x)) e ∙ int_wrap-add_left w32 (a +ℤ y) x ∙ ap (int_wrap w32) (turned a y x)

-- a sum of four terms, the second added last
pub sum_of_four : (a x y z inner first : ℤ) → inner ≡ int_wrap w32 (a +ℤ y) → first ≡ int_wrap w32 (inner +ℤ z) → int_wrap w32 (first +ℤ x) ≡ int_wrap w32 (((a +ℤ x) +ℤ y) +ℤ z)
sum_of_four a x y z inner first e g =
    ap (λ f. int_wrap w32 (f +ℤ x)) (g ∙ ap (λ f. int_wrap w32 (f +ℤ z)) e ∙ int_wrap-add_left w32 (a +ℤ y) z)
    ∙ int_wrap-add_left w32 ((a +ℤ y) +ℤ z) x
    ∙ ap (int_wrap w32) (turned (a +ℤ y) z x ∙ ap (λ s. s +ℤ z) (turned a y x))
