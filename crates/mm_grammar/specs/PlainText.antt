-- The plain text of a matrix: the form in which matrix files are written.
use Rattle.std.specs.Prelude.{ℕ, List, ◌∷◌, ◌++◌, codes, map}
use Rattle.std.specs.Fmt.{decimal, signed_decimal}
use Rattle.line_text.specs.Lines.{text_of_lines}
use Rattle.mm_grammar.specs.Matrix.{Matrix}

unfoldable pub banner_line : List ℕ
banner_line = codes "%%MatrixMarket matrix array integer general"

-- M and N
abbrev pub size_line : ℕ → ℕ → List ℕ
size_line rows columns = decimal rows ++ 32 ∷ decimal columns

-- the size, and the values by columns, one a line
abbrev pub cell_lines : Matrix → List (List ℕ)
cell_lines m = size_line m.rows m.columns ∷ map signed_decimal m.values

-- the banner, the size and the values, each line with its end
unfoldable pub plain_text : Matrix → List ℕ
plain_text m = text_of_lines (banner_line ∷ cell_lines m)
