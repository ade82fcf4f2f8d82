-- Integers, by the numbers of their digits up to a cap.
use Rattle.std.proofs.Common.{◌≡◌, ℕ, zero, suc, ◌+◌, ◌^◌, ◌<◌, ◌≤◌, min, ℤ, pos, negsuc, neg_ℤ, Option, Some, None, refl, ap, arith}
use Rattle.std.specs.Option.{option_map}
use Rattle.std.proofs.lemmas.Bool.{le-ltb, lt-ltb}
use Rattle.std.specs.Prelude.{FitsSigned}
use Rattle.std.specs.Int.{w32}
use Rattle.line_text.specs.Integers.{IsPast, IsOut, in_32_bits}

-- no number
pub no_number : (cap : ℕ) (f : ℕ → ℤ) (o : Option ℕ) → None ≡ option_map (λ x. min x cap) o → option_map f o ≡ None
no_number cap f None e = refl
no_number cap f (Some n) e = absurd cc

-- a number below the cap, and one that reaches it
pub below_cap : (cap : ℕ) (f : ℕ → ℤ) (o : Option ℕ) (m : ℕ) → Some m ≡ option_map (λ x. min x cap) o → m < cap → option_map f o ≡ Some (f m)
below_cap cap f None m e small = absurd cc
below_cap cap f (Some n) m e small = let c : m ≡ min n cap = cc in let same : n ≡ m = omega arith in ap (λ (k : ℕ). Some (f k)) same

pub positive_past : (o : Option ℕ) (m : ℕ) → Some m ≡ option_map (λ x. min x (2 ^ 31)) o → 2 ^ 31 ≤ m → IsOut (option_map (λ n. pos n) o)
positive_past None m e large = absurd cc
positive_past (Some n) m e large = let c : m ≡ min n (2 ^ 31) = cc in record { value = pos n; is = refl; past = omega arith }

negatives : (n : ℕ) → 2 ^ 31 < n → IsPast (neg_ℤ (pos n))
negatives zero large = absurd (omega arith)
negatives (suc n) large = omega arith

pub negative_past : (o : Option ℕ) (m : ℕ) → Some m ≡ option_map (λ x. min x (2 ^ 31 + 1)) o → 2 ^ 31 < m → IsOut (option_map (λ n. neg_ℤ (pos n)) o)
negative_past None m e large = absurd cc
negative_past (Some n) m e large = let c : m ≡ min n (2 ^ 31 + 1) = cc in record { value = neg_ℤ (pos n); is = refl; past = negatives n (omega arith) }

-- what is no integer, one of 32 bits, and another
pub without_integer : (z : Option ℤ) → z ≡ None → None ≡ in_32_bits z
without_integer z e = rw e refl

fitting : (v : ℤ) → FitsSigned w32 v → Some v ≡ in_32_bits (Some v)
fitting (pos n) fits = rw (lt-ltb n (2 ^ 31) (omega arith)) refl
fitting (negsuc n) fits = rw (lt-ltb n (2 ^ 31) (omega arith)) refl

pub in_range : (z : Option ℤ) (v : ℤ) → FitsSigned w32 v → z ≡ Some v → Some v ≡ in_32_bits z
in_range z v fits e = rw e (fitting v fits)

past : (v : ℤ) → IsPast v → None ≡ in_32_bits (Some v)
past (pos n) h = rw (le-ltb n (2 ^ 31) h) refl
past (negsuc n) h = rw (le-ltb n (2 ^ 31) h) refl

pub out_of_range : (z : Option ℤ) → IsOut z → None ≡ in_32_bits z
out_of_range z o = rw o.is (past o.value o.past)
