-- The elements of a matrix from its stored values.
use Rattle.std.specs.Prelude.{ℕ, zero, suc, ◌+◌, ◌-◌, ℤ, pos, neg_ℤ, List, [], ◌∷◌, ◌++◌, map, get_or, nat_le, nat_lt, ◌==◌, if◌then◌else◌}
use Rattle.std.specs.List.{flat_map}
use Rattle.mm_grammar.specs.Symmetry.{Symmetry, General, Symmetric, SkewSymmetric}

-- the numbers below n in increasing order
abbrev pub below : ℕ → List ℕ
below zero = []
below (suc n) = below n ++ n ∷ []

-- the elements of a matrix by columns
abbrev pub by_columns : (rows columns : ℕ) → (ℕ → ℕ → ℤ) → List ℤ
by_columns rows columns element = flat_map (λ j. map (λ i. element i j) (below rows)) (below columns)

-- of the stored triangle of a matrix with n columns, column j has the rows from j + first to n - 1: where it begins
abbrev pub column_start : (first n j : ℕ) → ℕ
column_start first n zero = 0
column_start first n (suc j) = column_start first n j + (n - (j + first))

-- the stored value of row i and column j, where j + first is at most i
abbrev pub stored_at : (first n : ℕ) → List ℤ → (i j : ℕ) → ℤ
stored_at first n stored i j = get_or stored (column_start first n j + (i - (j + first))) (pos 0)

-- the element of row i and column j: on and below the diagonal as stored, above it its mirror
abbrev pub symmetric_element : ℕ → List ℤ → (i j : ℕ) → ℤ
symmetric_element n stored i j = if nat_le j i then stored_at 0 n stored i j else stored_at 0 n stored j i

-- below the diagonal as stored, 0 on it, and above it the negative of its mirror
abbrev pub skew_element : ℕ → List ℤ → (i j : ℕ) → ℤ
skew_element n stored i j =
    if nat_lt j i then stored_at 1 n stored i j else (if i == j then pos 0 else neg_ℤ (stored_at 1 n stored j i))

-- all elements by columns
unfoldable pub expanded : Symmetry → (columns : ℕ) → List ℤ → List ℤ
expanded General columns stored = stored
expanded Symmetric columns stored = by_columns columns columns (symmetric_element columns stored)
expanded SkewSymmetric columns stored = by_columns columns columns (skew_element columns stored)
