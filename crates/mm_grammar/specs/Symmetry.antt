-- The symmetries of matrix files, and how many values a file of each holds.
use Rattle.std.specs.Prelude.{ℕ, ◌+◌, ◌-◌, ◌*◌, ◌/◌, List, Option, Some, None, codes, if◌then◌else◌}
use Rattle.std.specs.Str.{str_eq_ignore_ascii_case}

pub data Symmetry : Type 0 where
  -- all values are stored
  General : Symmetry
  -- those on and below the diagonal are stored; the others mirror them
  Symmetric : Symmetry
  -- those below the diagonal are stored; the diagonal is 0, and the others are their negatives
  SkewSymmetric : Symmetry

-- the symmetry that a word names, without regard to case
unfoldable pub symmetry_named : List ℕ → Option Symmetry
symmetry_named word =
    if str_eq_ignore_ascii_case word (codes "general") then Some General
    else (if str_eq_ignore_ascii_case word (codes "symmetric") then Some Symmetric
    else (if str_eq_ignore_ascii_case word (codes "skew-symmetric") then Some SkewSymmetric else None))

-- the number of values that are stored of a matrix of this size
abbrev pub stored_count : Symmetry → (rows columns : ℕ) → ℕ
stored_count General rows columns = rows * columns
stored_count Symmetric rows columns = columns * (columns + 1) / 2
stored_count SkewSymmetric rows columns = columns * (columns - 1) / 2
