-- Quotients rounded up, and least common multiples.
use Rattle.std.specs.Prelude.{◌≡◌, ℕ, ◌*◌, ◌%◌, ◌<◌, ◌≤◌}
use Rattle.std.specs.Int.{◌∣◌}

-- the least number whose product with the divisor is at least n
pub record IsLeastCover (n divisor least : ℕ) : Type 0 where
  pub covers : n ≤ least * divisor
  pub smallest : (k : ℕ) → n ≤ k * divisor → least ≤ k

-- a positive number without remainder under both m and n
pub record IsCommonMultiple (m n k : ℕ) : Type 0 where
  pub positive : 0 < k
  pub of_first : k % m ≡ 0
  pub of_second : k % n ≡ 0

-- the least positive common multiple
pub record IsLeastCommonMultiple (m n least : ℕ) : Type 0 where
  pub common : IsCommonMultiple m n least
  pub smallest : (k : ℕ) → IsCommonMultiple m n k → least ≤ k

-- each number that m and n divide, times d, is a multiple of m * n
pub record Scales (m n d : ℕ) : Type 0 where
  pub divides : (k : ℕ) → m ∣ k → n ∣ k → m * n ∣ k * d
