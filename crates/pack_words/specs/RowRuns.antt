-- Row runs in one local column.
use Rattle.std.specs.Prelude.{ℕ, ◌+◌, ◌≤◌, ◌<◌, List, map}
use Rattle.std.specs.List.{range_with_len, flat_map}
use Rattle.pack_words.specs.declared.span.Span.{Span}
use Rattle.pack_words.specs.LocalCells.{LocalCells}

-- the run of rows lies in local column j of the array
pub record IsRunOf (c : LocalCells) (j : ℕ) (row : Span) : Type 0 where
  pub rows : row.place + row.len ≤ c.lld
  pub column : j < c.cols

-- the local rows and columns of a run of rows in local column j
abbrev pub one_run : ℕ → Span → List (ℕ × ℕ)
one_run j row = map (λ u. (row.place + u, j)) (range_with_len 0 row.len)

-- those of several runs, run by run
unfoldable pub run_spots : List Span → ℕ → List (ℕ × ℕ)
run_spots rows j = flat_map (one_run j) rows
