-- What PRINT writes.
use Rattle.std.specs.Prelude.{ℕ, ◌+◌, ◌*◌, ℤ, pos, List, [], ◌∷◌, ◌++◌, codes, map, slice_index_or}
use Rattle.std.specs.Fmt.{decimal, signed_decimal}
use Rattle.std.specs.List.{flat_map, range_with_len}
use Rattle.line_text.specs.Lines.{ended}
use Rattle.mm_grammar.specs.Matrix.{Matrix}

-- a word after a space
abbrev pub after_space : List ℕ → List ℕ
after_space word = 32 ∷ word

-- words that are separated by one space each
abbrev pub separated : List (List ℕ) → List ℕ
separated [] = []
separated (word ∷ more) = word ++ flat_map after_space more

-- the value of row i and column j, both counted from 0
abbrev pub value_at : Matrix → (i j : ℕ) → ℤ
value_at m i j = slice_index_or m.values (j * m.rows + i) (pos 0)

-- the line of row i: its values
unfoldable pub row_line : Matrix → ℕ → List ℕ
row_line m i = separated (map (λ j. signed_decimal (value_at m i j)) (range_with_len 0 m.columns))

-- the lines of the first rows
unfoldable pub first_rows : Matrix → ℕ → List ℕ
first_rows m n = flat_map (λ i. ended (row_line m i)) (range_with_len 0 n)

-- the lines of all rows
abbrev pub rows_text : Matrix → List ℕ
rows_text m = first_rows m m.rows

-- the first line of an ARRAY: its name, M and N
unfoldable pub array_title : (name : List ℕ) → (rows columns : ℕ) → List ℕ
array_title name rows columns = separated (name ∷ decimal rows ∷ decimal columns ∷ [])

-- the first line of a MATRIX: its name, the rank, LLD and COLS
unfoldable pub matrix_title : (name : List ℕ) → (rank rows columns : ℕ) → List ℕ
matrix_title name rank rows columns = separated (name ∷ codes "rank" ∷ decimal rank ∷ decimal rows ∷ decimal columns ∷ [])

-- `PRINT X`: the first line, and the rows of the whole matrix
unfoldable pub array_text : (name : List ℕ) → Matrix → List ℕ
array_text name m = ended (array_title name m.rows m.columns) ++ rows_text m

-- `PRINT V n`: the first line, and the rows of the rank's array
unfoldable pub matrix_text : (name : List ℕ) → (rank : ℕ) → Matrix → List ℕ
matrix_text name rank m = ended (matrix_title name rank m.rows m.columns) ++ rows_text m
