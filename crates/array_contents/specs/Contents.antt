-- The arrays of all ranks, and what setting the words of one of them leaves.
use Rattle.std.specs.Prelude.{◌≡◌, ℕ, ◌<◌, ◌≤◌, List, [], map, length, slice_index_or, slice_set}
use Rattle.std.specs.Global.{Vec}
use Rattle.pack_words.specs.LocalCells.{LocalCells, zeros}
use Rattle.pack_words.specs.GridState.{GridState}
use Rattle.program_meaning.specs.Filling.{Writing, with_written}

-- the arrays in a list of vectors
abbrev pub arrays_of : List (Vec LocalCells) → List (List LocalCells)
arrays_of ranks = map (λ mine. mine.items) ranks

-- the array of that number is another; where there are not so many all stay
abbrev pub with_cells : ℕ → (LocalCells → LocalCells) → List LocalCells → List LocalCells
with_cells array f mine = slice_set mine array (f (slice_index_or mine array (zeros 1 0)))

-- In each state with these arrays, setting the words of that array leaves those arrays.
abbrev pub Writes : ℕ → Writing → List (List LocalCells) → List (List LocalCells) → Type 0
Writes array f old new = (s : GridState) → s.arrays ≡ old → (with_written array f s).arrays ≡ new

-- where a rank has the array of that number, it has that leading dimension
abbrev pub HaveLead : ℕ → ℕ → List (List LocalCells) → Type 0
HaveLead array lld arrays = (r : ℕ) → array < length (slice_index_or arrays r []) → (slice_index_or (slice_index_or arrays r []) array (zeros 1 0)).lld ≡ lld

-- room for so many words is room for the words of a column of each rank's array of that number
abbrev pub HasRoomFor : ℕ → List (List LocalCells) → ℕ → Type 0
HasRoomFor array arrays room = (r : ℕ) → array < length (slice_index_or arrays r []) → (slice_index_or (slice_index_or arrays r []) array (zeros 1 0)).lld ≤ room
