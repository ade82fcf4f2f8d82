-- The first of some numbered tests that answers.
use Rattle.std.specs.Prelude.{ℕ, zero, suc, Option, None}
use Rattle.std.specs.Option.{option_or}

-- the first answer of the tests 0, 1, .. below n
unfoldable pub first_of : {A : Type 0} → (ℕ → Option A) → ℕ → Option A
first_of answers zero = None
first_of answers (suc n) = option_or (first_of answers n) (answers n)
