-- The names of two pieces differ.
use Rattle.std.proofs.Common.{◌≡◌, ℕ, ◌+◌, ◌*◌, ◌/◌, ◌%◌, ◌^◌, ◌<◌, ◌≤◌, List, [], ◌∷◌, ◌++◌, Some, refl, sym, ap, ap₂, ◌∙◌, arith}
use Rattle.std.specs.Fmt.{decimal}
use Rattle.std.proofs.lemmas.Fmt.{decimal_by_steps}
use Rattle.std.proofs.Math.Nat.{div-le_self, div-add-mod, mod-lt}
use Rattle.line_text.specs.Numbers.{digits_number}
use Rattle.line_text.proofs.NumberLaws.{digits_number_decimal}
use Rattle.piece_grammar.specs.PlainPiece.{piece_name}

-- no byte is a dot (46)
abbrev HasNoDot : List ℕ → Type 0
HasNoDot [] = Unit {0}
HasNoDot (b ∷ bs) = (b ≡ 46 → ⊥) × HasNoDot bs

one_more : (bs : List ℕ) (b : ℕ) → HasNoDot bs → (b ≡ 46 → ⊥) → HasNoDot (bs ++ b ∷ [])
one_more [] b h other = (other, tt)
one_more (c ∷ bs) b h other = (h.0, one_more bs b h.1 other)

no_dot : (n : ℕ) → n < 2 ^ 64 → HasNoDot (decimal n)
no_dot = decimal_by_steps (λ m ds. HasNoDot ds) (λ m l. (λ e. omega (arith, e), tt)) (λ m ds l h. one_more ds (48 + m % 10) h (λ e. omega (arith, e)))

-- what stands before the first dot, and after it
same_parts : (a b c d : List ℕ) → HasNoDot a → HasNoDot b → a ++ 46 ∷ c ≡ b ++ 46 ∷ d → (a ≡ b) × (c ≡ d)
same_parts [] [] c d h k e = let is : c ≡ d = cc in (refl, is)
same_parts [] (y ∷ b) c d h k e = let is : y ≡ 46 = cc in absurd (k.0 is)
same_parts (x ∷ a) [] c d h k e = let is : x ≡ 46 = cc in absurd (h.0 is)
same_parts (x ∷ a) (y ∷ b) c d h k e =
    let first : x ≡ y = cc in
    let more : a ++ 46 ∷ c ≡ b ++ 46 ∷ d = cc in
    let rest = same_parts a b c d h.1 k.1 more in
    (ap₂ (λ (z : ℕ) (zs : List ℕ). z ∷ zs) first rest.0, rest.1)

same_rest : (p a b : List ℕ) → p ++ a ≡ p ++ b → a ≡ b
same_rest [] a b e = e
same_rest (x ∷ p) a b e = let more : p ++ a ≡ p ++ b = cc in same_rest p a b more

same_number : (m n : ℕ) → m < 2 ^ 64 → n < 2 ^ 64 → decimal m ≡ decimal n → m ≡ n
same_number m n hm hn e = let is : Some m ≡ Some n = sym (digits_number_decimal m hm) ∙ ap digits_number e ∙ digits_number_decimal n hn in cc

same_place : (prefix : List ℕ) (p q r s : ℕ) → p < 2 ^ 64 → q < 2 ^ 64 → r < 2 ^ 64 → s < 2 ^ 64 → piece_name prefix p q ≡ piece_name prefix r s → (p ≡ r) × (q ≡ s)
same_place prefix p q r s hp hq hr hs e =
    let rest : 46 ∷ (decimal p ++ 46 ∷ decimal q) ≡ 46 ∷ (decimal r ++ 46 ∷ decimal s) = same_rest prefix _ _ e in
    let numbers : decimal p ++ 46 ∷ decimal q ≡ decimal r ++ 46 ∷ decimal s = cc in
    let each = same_parts (decimal p) (decimal r) (decimal q) (decimal s) (no_dot p hp) (no_dot r hr) numbers in
    (same_number p r hp hr each.0, same_number q s hq hs each.1)

-- pieces j and k of a grid
pub same_piece : (prefix : List ℕ) (npcol j k : ℕ) → 1 ≤ npcol → npcol ≤ 64 → j < 64 → k < 64 → piece_name prefix (j / npcol) (j % npcol) ≡ piece_name prefix (k / npcol) (k % npcol) → j ≡ k
same_piece prefix npcol j k some few hj hk e =
    let a = div-le_self j npcol in
    let b = div-le_self k npcol in
    let c : j % npcol < npcol = mod-lt j some in
    let d : k % npcol < npcol = mod-lt k some in
    let each = same_place prefix (j / npcol) (j % npcol) (k / npcol) (k % npcol) (omega (arith, a)) (omega (arith, c)) (omega (arith, b)) (omega (arith, d)) e in
    sym (div-add-mod j npcol) ∙ ap₂ (λ (x : ℕ) (y : ℕ). npcol * x + y) each.0 each.1 ∙ div-add-mod k npcol
