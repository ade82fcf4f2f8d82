-- What the array of a rank becomes, as the code sets it.
use Rattle.std.specs.Prelude.{ℕ, ◌/◌, ◌%◌, List, Option, slice_get}
use Rattle.index_tools.specs.Home.{Layout}
use Rattle.proc_grid.specs.Grid.{Grid, place_of}
use Rattle.pack_words.specs.LocalCells.{LocalCells}
use Rattle.program_meaning.specs.Filling.{written_cells}
use Rattle.array_contents.specs.declared.filling.Filling.{Filling}
use Rattle.array_contents.specs.declared.local_words.Source.{Source}
use Rattle.array_contents.specs.Columns.{placed_word}
use Rattle.array_contents.specs.LocalWords.{spread_word}
use Rattle.array_contents.specs.Shares.{rows_by, columns_by}
use Rattle.array_contents.specs.Contents.{with_cells}

-- the words of a rank's array, which has its share of a spread matrix
abbrev pub spread_cells : Source → Layout → Option (ℕ × ℕ) → LocalCells → LocalCells
spread_cells source l at c = written_cells (λ x word. spread_word source (rows_by l at) (slice_get (columns_by l at) (x / c.lld)) (x % c.lld) word) c

abbrev pub spread_rank : ℕ → Source → Layout → Grid → ℕ → List LocalCells → List LocalCells
spread_rank array source l g r mine = with_cells array (spread_cells source l (place_of g r)) mine

-- and of one that isn't spread
abbrev pub placed_cells : Filling → ℕ → LocalCells → LocalCells
placed_cells f r c = written_cells (λ x word. placed_word f r (x / c.lld) (x % c.lld) word) c

abbrev pub placed_rank : ℕ → Filling → ℕ → List LocalCells → List LocalCells
placed_rank array f r mine = with_cells array (placed_cells f r) mine
