-- A process grid: ranks at the places of a rectangle. A User's Guide to the BLACS, "Process grids".
use Rattle.std.specs.Prelude.{◌≡◌, ℕ, ◌+◌, ◌*◌, ◌/◌, ◌%◌, ◌<◌, ◌≤◌, ◌==◌, ◌&&◌, Bool, nat_lt, List, length, map, Option, None, Some, is_some, slice_get, slice_index, position, if◌then◌else◌, ℤ, pos, negsuc}
use Rattle.std.specs.List.{range_with_len}
use Rattle.std.specs.Option.{option_map}

-- so many process rows and columns, and the ranks in row-major order
pub record Grid : Type 0 where
  pub nprow : ℕ
  pub npcol : ℕ
  pub ranks : List ℕ

-- where the place (p, q) stands in row-major order
abbrev pub place_number : ℕ → ℕ → ℕ → ℕ
place_number npcol p q = p * npcol + q

-- the rank at the place (p, q), if the place is in the grid
abbrev pub rank_at : Grid → ℕ → ℕ → Option ℕ
rank_at g p q = if nat_lt p g.nprow && nat_lt q g.npcol then slice_get g.ranks (place_number g.npcol p q) else None

-- the place is one of the grid's
abbrev pub is_in : Grid → ℕ × ℕ → Bool
is_in g place = is_some (rank_at g place.0 place.1)

abbrev pub or_zero : Option ℕ → ℕ
or_zero None = 0
or_zero (Some n) = n

-- the rank at a place of the grid
abbrev pub rank_of : Grid → ℕ × ℕ → ℕ
rank_of g place = or_zero (rank_at g place.0 place.1)

-- the place of a rank, if the rank is in the grid
abbrev pub place_of : Grid → ℕ → Option (ℕ × ℕ)
place_of g rank = option_map (λ k. (k / g.npcol, k % g.npcol)) (position (λ r. r == rank) g.ranks)

-- What each context keeps: 1 to 64 process rows and columns, a rank below 64 at each place, and no rank twice.
pub record IsGrid (g : Grid) : Type 0 where
  pub some_rows : 0 < g.nprow
  pub few_rows : g.nprow ≤ 64
  pub some_columns : 0 < g.npcol
  pub few_columns : g.npcol ≤ 64
  pub filled : length g.ranks ≡ g.nprow * g.npcol
  pub few : length g.ranks ≤ 64
  pub ranks_below : (k : ℕ) → k < length g.ranks → slice_index g.ranks k < 64
  pub distinct : (j k : ℕ) → j < length g.ranks → k < length g.ranks → slice_index g.ranks j ≡ slice_index g.ranks k → j ≡ k

-- the grid with the rank `at p q` at each place (p, q)
abbrev pub grid_by : ℕ → ℕ → (ℕ → ℕ → ℕ) → Grid
grid_by nprow npcol at = record { nprow = nprow; npcol = npcol; ranks = map (λ k. at (k / npcol) (k % npcol)) (range_with_len 0 (nprow * npcol)) }

-- a number, or -1
abbrev pub or_minus_one : Option ℕ → ℤ
or_minus_one None = negsuc 0
or_minus_one (Some n) = pos n

-- a number that is at least 0
abbrev pub natural : ℤ → Option ℕ
natural (pos n) = Some n
natural (negsuc n) = None

-- the rank at a place of the grid, and -1 outside
abbrev pub pnum_of : Grid → ℤ → ℤ → ℤ
pnum_of g (pos p) (pos q) = or_minus_one (rank_at g p q)
pnum_of g (pos p) (negsuc q) = negsuc 0
pnum_of g (negsuc p) column = negsuc 0

-- a place by its coordinates, or twice -1
abbrev pub place_or_minus_one : Option (ℕ × ℕ) → ℤ × ℤ
place_or_minus_one None = (negsuc 0, negsuc 0)
place_or_minus_one (Some place) = (pos place.0, pos place.1)

-- the place of a rank of the grid, and (-1, -1) outside
abbrev pub pcoord_of : Grid → ℤ → ℤ × ℤ
pcoord_of g (pos rank) = place_or_minus_one (place_of g rank)
pcoord_of g (negsuc rank) = (negsuc 0, negsuc 0)
