-- Euclid's steps, and the least common multiple from the greatest common divisor.
use Rattle.std.proofs.Common.{◌≡◌, ℕ, zero, ◌+◌, ◌-◌, ◌*◌, ◌/◌, ◌%◌, ◌<◌, ◌≤◌, suc, subst, refl, sym, ap, ◌∙◌, arith}
use Rattle.std.proofs.Math.Nat.{mod-lt, le_of_mul-le-mul_right, lt_of_mul-lt-mul_right, dvd-sub, dvd-mul_right, dvd-mul_right_of_dvd, mul-dvd-mul_left, mul-dvd-mul_right, dvd_of_mul-dvd-mul_right, div-mul_cancel}
use Rattle.std.proofs.lemmas.Nat.{div-add-mod'}
use Rattle.std.proofs.lemmas.Nat.Gcd.{le_of_dvd, dvd_of_mod-eq-zero, mod-eq-zero_of_dvd}
use Rattle.std.specs.Int.{◌∣◌, IsGcd}
use Rattle.index_tools.specs.Multiples.{IsLeastCover, IsLeastCommonMultiple, Scales}

pub Scales-first : (m n : ℕ) → Scales m n m
Scales-first m n = record { divides = λ k p q. subst (λ x. m * n ∣ x) (let e : m * k ≡ k * m = omega arith in e) (mul-dvd-mul_left n m q) }

pub Scales-second : (m n : ℕ) → Scales m n n
Scales-second m n = record { divides = λ k p q. mul-dvd-mul_right m p n }

-- by a remainder
pub Scales-mod : (m n a b : ℕ) → Scales m n a → Scales m n b → Scales m n (a % b)
Scales-mod m n a b f g = record { divides = λ k p q. subst (λ x. m * n ∣ x) (rest k a b) (dvd-sub (m * n) (f.divides k p q) (dvd-mul_right_of_dvd (m * n) (g.divides k p q) (a / b))) }
  where
    split : (k r x b : ℕ) → k * (x * b + r) - k * b * x ≡ k * r
    split k r x b = let e : k * (x * b + r) ≡ k * r + k * b * x = omega arith in omega arith

    rest : (k a b : ℕ) → k * a - k * b * (a / b) ≡ k * (a % b)
    rest k a b = ap (λ x. k * x - k * b * (a / b)) (sym (div-add-mod' a b)) ∙ split k (a % b) (a / b) b

-- The first number over the greatest common divisor, times the second, is the least common multiple.
pub least_from_gcd : (m n g : ℕ) → 0 < m → 0 < n → 0 < g → IsGcd m n g → Scales m n g → IsLeastCommonMultiple m n (m / g * n)
least_from_gcd m n g hm hn hg h s =
    let whole : m / g * g ≡ m = div-mul_cancel g h.0 in
    let other : n / g * g ≡ n = div-mul_cancel g h.1 in
    let some : 0 < m / g = pos (m / g) m g whole hm in
    let second : (m / g * n) % n ≡ 0 = mod-eq-zero_of_dvd n (subst (λ x. n ∣ x) (let e : n * (m / g) ≡ m / g * n = omega arith in e) (dvd-mul_right n (m / g))) in
    let turned : m * (n / g) ≡ m / g * n = turn (m / g) (n / g) g m n whole other in
    let first : (m / g * n) % m ≡ 0 = mod-eq-zero_of_dvd m (subst (λ x. m ∣ x) turned (dvd-mul_right m (n / g))) in
    record {
      common = record { positive = product (m / g) n some hn; of_first = first; of_second = second };
      smallest = λ k c. le_of_dvd c.positive (dvd_of_mul-dvd-mul_right (m / g * n) hg (subst (λ x. x ∣ k * g) (scaled (m / g) g m n whole) (s.divides k (dvd_of_mod-eq-zero m c.of_first) (dvd_of_mod-eq-zero n c.of_second))));
    }
  where
    pos : (q m g : ℕ) → q * g ≡ m → 0 < m → 0 < q
    pos zero m g e h = omega arith
    pos q m g e h = grind arith

    product : (a b : ℕ) → 0 < a → 0 < b → 0 < a * b
    product a b h k = grind arith

    turn : (a b g m n : ℕ) → a * g ≡ m → b * g ≡ n → m * b ≡ a * n
    turn a b g m n e f = ap (λ x. x * b) (sym e) ∙ (let r : a * g * b ≡ a * (b * g) = omega arith in r) ∙ ap (λ x. a * x) f

    scaled : (a g m n : ℕ) → a * g ≡ m → m * n ≡ a * n * g
    scaled a g m n e = ap (λ x. x * n) (sym e) ∙ (let r : a * g * n ≡ a * n * g = omega arith in r)

-- The same for a number that is known to equal it.
pub least_from_gcd-same : (m n g l : ℕ) → 0 < m → 0 < n → 0 < g → IsGcd m n g → Scales m n g → l ≡ m / g * n → IsLeastCommonMultiple m n l
least_from_gcd-same m n g l hm hn hg h s e = subst (λ x. IsLeastCommonMultiple m n x) (sym e) (least_from_gcd m n g hm hn hg h s)

-- The quotient, and one more where something is left, is the least cover.
pub least_cover : (n d q : ℕ) → 0 < d → (n % d ≡ 0 → q ≡ n / d) → (0 < n % d → q ≡ n / d + 1) → IsLeastCover n d q
least_cover n d q hd low high =
    let split : n / d * d + n % d ≡ n = div-add-mod' n d in
    let rest : n % d < d = mod-lt n hd in
    record { covers = cover n d q (n / d) (n % d) split rest low high; smallest = λ k h. least n d q (n / d) (n % d) k split low high h hd }
  where
    cover : (n d q x r : ℕ) → x * d + r ≡ n → r < d → (r ≡ 0 → q ≡ x) → (0 < r → q ≡ x + 1) → n ≤ q * d
    cover n d q x zero e h low high = let same : q ≡ x = low refl in rw same (omega arith)
    cover n d q x (suc r) e h low high = let same : q ≡ x + 1 = high (omega arith) in rw same (omega arith)

    over : (x d r k : ℕ) → x * d + r ≤ k * d → 0 < r → x < k
    over x d r k h p = lt_of_mul-lt-mul_right d (omega arith)

    least : (n d q x r k : ℕ) → x * d + r ≡ n → (r ≡ 0 → q ≡ x) → (0 < r → q ≡ x + 1) → n ≤ k * d → 0 < d → q ≤ k
    least n d q x zero k e low high h p = let same : q ≡ x = low refl in let below : x ≤ k = le_of_mul-le-mul_right (let f : x * d ≤ k * d = omega arith in f) p in omega arith
    least n d q x (suc r) k e low high h p = let same : q ≡ x + 1 = high (omega arith) in let below : x < k = over x d (suc r) k (omega arith) (omega arith) in omega arith
