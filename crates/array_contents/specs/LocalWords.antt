-- What the words of a local array become, by their local rows and columns.
use Rattle.std.specs.Prelude.{◌≡◌, ℕ, ◌/◌, ◌%◌, ◌<◌, ◌≤◌, ℤ, List, length, Option, None, Some, slice_get, slice_index}
use Rattle.array_contents.specs.declared.local_words.Source.{Source}
use Rattle.array_contents.specs.declared.local_words.Source.TheVariants.{Fill, Load}
use Rattle.array_contents.specs.declared.local_words.LocalWords.{LocalWords}
use Rattle.array_contents.specs.declared.local_words.LocalWords.TheVariants.{Spread, Placed}
use Rattle.array_contents.specs.Columns.{filled_word, placed_word, loaded_word}

-- by the local row i, where the array has these rows of a spread matrix and the column that column of it
abbrev pub spread_word : Source → List ℕ → Option ℕ → ℕ → ℤ → ℤ
spread_word (Fill f) rows column = filled_word f rows column
spread_word (Load whole) rows column = loaded_word whole.now.words.items whole.now.rows rows column

-- by the local column and row
abbrev pub local_word : LocalWords → ℕ → ℕ → ℤ → ℤ
local_word (Spread source rows columns) j = spread_word source.now rows.now (slice_get columns.now j)
local_word (Placed f rank) j = placed_word f rank j

-- by the place, in an array of that leading dimension
abbrev pub place_word : LocalWords → ℕ → ℕ → ℤ → ℤ
place_word by lld x word = local_word by (x / lld) (x % lld) word

-- a column of a matrix that is loaded is one of its columns
abbrev pub IsColumn : ℕ → Option ℕ → Type 0
IsColumn columns None = Unit {0}
IsColumn columns (Some j) = j < columns

-- rows of a spread matrix and a column of it, of a local array whose columns have so many words
abbrev pub IsFrom : Source → List ℕ → Option ℕ → ℕ → Type 0
IsFrom (Fill f) rows column lld = length rows ≤ lld
IsFrom (Load whole) rows column lld = (length rows ≤ lld) × ((k : ℕ) → k < length rows → slice_index rows k < whole.now.rows) × IsColumn whole.now.columns column

-- the same of each local column
abbrev pub IsOn : LocalWords → ℕ → Type 0
IsOn (Spread source rows columns) lld = (j : ℕ) → IsFrom source.now rows.now (slice_get columns.now j) lld
IsOn (Placed f rank) lld = Unit {0}
