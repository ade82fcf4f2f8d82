-- Which elements of a matrix a shape selects. Rows and columns count from 0. A User's Guide to the BLACS, "Matrix shapes".
use Rattle.std.specs.Prelude.{ℕ, ◌+◌, ◌-◌, Bool, true, nat_le, nat_lt}
use Rattle.pack_words.specs.declared.cut.Cut.{Cut}
use Rattle.pack_words.specs.declared.shape.Shape.{Shape}
use Rattle.pack_words.specs.declared.shape.Shape.TheVariants.{Ge, Tr}
use Rattle.pack_words.specs.declared.uplo.Uplo.TheVariants.{Upper, Lower}
use Rattle.pack_words.specs.declared.diag.Diag.TheVariants.{N, U}

-- whether the shape of an m by n matrix has the element of row i and column j. The diagonal of an upper trapezoid begins in
-- row max(m - n, 0) of the first column, that of a lower one in column max(n - m, 0) of the first row; ◌-◌ is 0 where it
-- would be below
abbrev pub selects : Shape → ℕ → ℕ → ℕ → ℕ → Bool
selects Ge m n i j = true
selects (Tr Upper N) m n i j = nat_le i (j + (m - n))
selects (Tr Upper U) m n i j = nat_lt i (j + (m - n))
selects (Tr Lower N) m n i j = nat_le j (i + (n - m))
selects (Tr Lower U) m n i j = nat_lt j (i + (n - m))

-- whether the cut has the element of row i and column j
abbrev pub is_selected : Cut → ℕ → ℕ → Bool
is_selected cut i j = selects cut.shape cut.m cut.n i j
