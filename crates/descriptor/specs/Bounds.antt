-- When a number, a context or a list of leading dimensions is bad.
use Rattle.std.specs.Prelude.{ℕ, zero, suc, ◌+◌, ◌-◌, ◌*◌, ◌/◌, ◌^◌, ◌==◌, ◌||◌, Bool, true, false, not, nat_lt, max, List, length, Option, None, Some, is_none, slice_index_or, ℤ, pos, negsuc}
use Rattle.std.specs.List.{list_any}
use Rattle.index_tools.specs.Spread.{spread, below}
use Rattle.proc_grid.specs.Grid.{Grid, place_of}

-- a number that isn't at least `low` and at most `high`
unfoldable pub is_outside : ℤ → ℕ → ℕ → Bool
is_outside (pos n) low high = nat_lt n low || nat_lt high n
is_outside (negsuc n) low high = true

-- a start, counted from 1, from which so many indices don't lie in the whole: 1 ≤ start and start + extent - 1 ≤ whole
-- don't both hold
unfoldable pub starts_outside : ℤ → ℤ → ℤ → Bool
starts_outside (pos start) (pos extent) (pos whole) = nat_lt start 1 || nat_lt whole (start + extent - 1)
starts_outside (pos start) (pos extent) (negsuc whole) = true
starts_outside (pos start) (negsuc extent) whole = true
starts_outside (negsuc start) extent whole = true

-- a number that is at least 0, as such
abbrev pub part : ℤ → ℕ
part (pos n) = n
part (negsuc n) = 0

-- the process rows and columns of a context, and the process row of a rank in it; 0 where there is none
abbrev pub rows_of : Option Grid → ℕ
rows_of None = 0
rows_of (Some g) = g.nprow

abbrev pub columns_of : Option Grid → ℕ
columns_of None = 0
columns_of (Some g) = g.npcol

abbrev pub first_or_zero : Option (ℕ × ℕ) → ℕ
first_or_zero None = 0
first_or_zero (Some place) = place.0

abbrev pub row_of : Option Grid → ℕ → ℕ
row_of None rank = 0
row_of (Some g) rank = first_or_zero (place_of g rank)

-- no context, or one that hasn't the rank
abbrev pub lacks_rank : Option Grid → ℕ → Bool
lacks_rank None rank = true
lacks_rank (Some g) rank = is_none (place_of g rank)

-- The least leading dimension of process row p, for so many rows in such blocks: the number of its rows, and at
-- least 1.
abbrev pub least_lld : ℕ → ℕ → ℕ → ℕ → ℕ → ℕ
least_lld rows block source nprow p = max 1 (below (spread block source nprow) p rows)

-- whether a test of one of the numbers below n passes
unfoldable pub some_below : (ℕ → Bool) → ℕ → Bool
some_below test zero = false
some_below test (suc n) = some_below test n || test n

-- A list of leading dimensions, one for each process in row-major order, is bad where it has another length than the
-- grid, or where one is less than the least of its process or above 2 ^ 24.
unfoldable pub has_bad_lld : List ℤ → ℕ → ℕ → ℕ → ℕ → ℕ → Bool
has_bad_lld llds rows block source nprow npcol =
    not (length llds == nprow * npcol)
    || some_below (λ k. is_outside (slice_index_or llds k (pos 0)) (least_lld rows block source nprow (k / npcol)) (2 ^ 24)) (nprow * npcol)

-- no common context, or one that hasn't each rank of another grid
unfoldable pub lacks_grid : Option Grid → Option Grid → Bool
lacks_grid None grid = true
lacks_grid (Some common) None = false
lacks_grid (Some common) (Some g) = list_any (λ rank. not (list_any (λ r. r == rank) common.ranks)) g.ranks
