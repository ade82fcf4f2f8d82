-- A list of ranks by rows as a map by columns.
use Rattle.std.specs.Prelude.{ℕ, ◌+◌, ◌*◌, ◌/◌, ◌%◌, List, slice_index}

-- the k-th entry by columns
abbrev pub column_entry : List ℕ → ℕ → ℕ → ℕ → ℕ
column_entry listed nprow npcol k = slice_index listed (k % nprow * npcol + k / nprow)
