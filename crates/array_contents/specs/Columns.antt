-- The words of a column of a local array, by their local rows.
use Rattle.std.specs.Prelude.{ℕ, ◌+◌, ◌*◌, ℤ, pos, ◌+ℤ◌, ◌*ℤ◌, List, Option, None, Some, slice_get, slice_index_or}
use Rattle.std.specs.Int.{int_wrap, w32}
use Rattle.program_meaning.specs.Filling as meaning
use Rattle.program_meaning.specs.Filling.{word_or, element_filled}
use Rattle.array_contents.specs.declared.filling.Filling.{Filling}

-- the numbers of FILL, as the program's meaning has them
abbrev pub filling_of : Filling → meaning.Filling
filling_of f = record { a = f.a; b = f.b; c = f.c; d = f.d }

-- the element in a row and a column, where both are there
abbrev pub element_in : Option ℕ → Option ℕ → Option (ℕ × ℕ)
element_in (Some i) (Some j) = Some (i, j)
element_in (Some i) None = None
element_in None j = None

-- FILL of an ARRAY, of an array that has these rows of the matrix, in a column that has that column of it
abbrev pub filled_word : Filling → List ℕ → Option ℕ → ℕ → ℤ → ℤ
filled_word f rows column i word = word_or (element_filled (filling_of f)) f.d (element_in (slice_get rows i) column)

-- padding in each place
abbrev pub padding_word : ℤ → ℕ → ℤ → ℤ
padding_word padding i word = padding

-- FILL of a MATRIX, in row i of column j on a rank
abbrev pub placed_word : Filling → ℕ → ℕ → ℕ → ℤ → ℤ
placed_word f rank j i word = int_wrap w32 (f.a +ℤ (f.b *ℤ pos i) +ℤ (f.c *ℤ pos j) +ℤ (f.d *ℤ pos rank))

-- the element of row i and column j of a matrix of so many rows, whose values stand by columns
abbrev pub value_at : List ℤ → ℕ → ℕ → ℕ → ℤ
value_at values height i j = slice_index_or values (j * height + i) (pos 0)

-- LOAD, of an array that has these rows of the matrix, in a column that has that column of it
abbrev pub loaded_word : List ℤ → ℕ → List ℕ → Option ℕ → ℕ → ℤ → ℤ
loaded_word values height rows column i word = word_or (value_at values height) word (element_in (slice_get rows i) column)
