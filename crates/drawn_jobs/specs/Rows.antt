-- Words of a column.
use Rattle.std.specs.Prelude.{ℕ, ℤ, pos, List, map, slice_index_or}

-- the words in these rows, counted from 0
abbrev pub words_at : List ℤ → (rows : List ℕ) → List ℤ
words_at column rows = map (λ i. slice_index_or column i (pos 0)) rows
