-- Steps along an axis that pass a test, counted. The step at i goes from index i to index i + 1.
use Rattle.std.specs.Prelude.{◌≡◌, ℕ, zero, suc, ◌+◌, ◌<◌, Bool, List, length, get_or, if◌then◌else◌}

-- how many of the steps from index 0 to index i pass the test
unfoldable pub steps : (ℕ → Bool) → ℕ → ℕ
steps t zero = 0
steps t (suc i) = steps t i + (if t i then 1 else 0)

-- s is the index to which the step goes that passes as the number-th, counted from 1
pub record IsStep (t : ℕ → Bool) (number s : ℕ) : Type 0 where
  pub its_number : steps t s ≡ number
  pub before : (i : ℕ) → i < s → steps t i < number

-- the indices to which the steps go that pass, as far as `last`
pub record AreSteps (t : ℕ → Bool) (last : ℕ) (indices : List ℕ) : Type 0 where
  pub count : length indices ≡ steps t last
  pub each : (k : ℕ) → k < length indices → IsStep t (suc k) (get_or indices k 0)

-- how many indices before the i-th are marked: the first one or not, and those to which a step goes that passes
abbrev pub begun_from : Bool → (ℕ → Bool) → ℕ → ℕ
begun_from first t zero = 0
begun_from first t (suc i) = (if first then 1 else 0) + steps t i
