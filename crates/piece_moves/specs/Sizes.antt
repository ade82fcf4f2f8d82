-- The sizes of the arrays of ranks.
use Rattle.std.specs.Prelude.{◌≡◌, ℕ, ◌*◌, List, length, slice_index_or}
use Rattle.std.specs.List.{AllByRecursion}
use Rattle.pack_words.specs.LocalCells.{LocalCells, zeros}
use Rattle.pack_words.specs.RankOps.{RankState}

abbrev pub array_in : ℕ → RankState → LocalCells
array_in array n = slice_index_or n.arrays array (zeros 1 0)

-- the leading dimension and the columns of a rank's array
abbrev pub size_in : ℕ → RankState → ℕ × ℕ
size_in array n = ((array_in array n).lld, (array_in array n).cols)

-- it has all its words
abbrev pub AreWhole : ℕ → RankState → Type 0
AreWhole array n = length (array_in array n).words ≡ (array_in array n).lld * (array_in array n).cols

-- each rank has two arrays
abbrev pub HoldTwo : List RankState → Type 0
HoldTwo nodes = AllByRecursion (λ n. length n.arrays ≡ 2) nodes
