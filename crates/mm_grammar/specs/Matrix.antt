-- Matrices of integers.
use Rattle.std.specs.Prelude.{◌≡◌, ℕ, ◌*◌, ◌^◌, ◌≤◌, true, ℤ, List, length}
use Rattle.std.specs.List.{AllByRecursion}
use Rattle.mm_grammar.specs.Width.{Width, most, is_in_range}

-- a number of rows, of columns, and the values by columns
pub record Matrix : Type 0 where
  pub rows : ℕ
  pub columns : ℕ
  pub values : List ℤ

-- a matrix within the limits of files: at most 2^24 rows and columns, and as many values as the width allows
pub record IsMatrix (width : Width) (m : Matrix) : Type 0 where
  pub rows_fit : m.rows ≤ 2 ^ 24
  pub columns_fit : m.columns ≤ 2 ^ 24
  pub area_fits : m.rows * m.columns ≤ (most width)
  pub count : length m.values ≡ m.rows * m.columns
  pub each : AllByRecursion (λ v. is_in_range width v ≡ true) m.values
