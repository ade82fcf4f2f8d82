-- The results of a program as they are known before it is run, and what they write of its arrays.
use Rattle.std.specs.Prelude.{ℕ, ◌*◌, List, [], ◌∷◌, Option, map, slice_index_or}
use Rattle.std.specs.List.{flat_map, range_with_len}
use Rattle.proc_grid.specs.Grid.{Grid}
use Rattle.descriptor.specs.declared.spread.Spread.{Spread}
use Rattle.mm_grammar.specs.PlainText.{plain_text}
use Rattle.mm_text.specs.LocalMatrix.{local_matrix}
use Rattle.mr2d.specs.Homes.{Arrays, cells_of}
use Rattle.piece_grammar.specs.PlainPiece.{piece_name}
use Rattle.grid_lang.specs.declared.line.Line.{Line}
use Rattle.grid_lang.specs.declared.line.Line.TheVariants.{Save as SaveLine, SavePieces, PrintArray, PrintMatrix}
use Rattle.grid_lang.specs.declared.line.Numbered.{Numbered}
use Rattle.save_list.specs.Save.{Save, save}
use Rattle.program_results.specs.Placed.{Placed, placed_of, placed_at, whole_matrix, row_of, column_of, cells_on, text_of_piece}
use Rattle.program_results.specs.Printing.{array_text, matrix_text}
use Rattle.program_results.specs.Results.{array_names, name_at}
use Rattle.program_results.specs.declared.file.File.{File}
use Rattle.program_results.specs.declared.file.Source.{Source}
use Rattle.program_results.specs.declared.file.Source.TheVariants.{Whole, Piece}
use Rattle.program_results.specs.declared.file.Print.{Print}
use Rattle.program_results.specs.declared.file.Print.TheVariants as print

-- The names of the arrays and the places of the ARRAYs, by number; the files that are to be saved, and what is to be printed.
pub record EndsView : Type 0 where
  pub names : List (List ℕ)
  pub places : List (Option Placed)
  pub files : List File
  pub prints : List Print

-- the results with the arrays after the program
pub record FinishedView : Type 0 where
  pub ends : EndsView
  pub arrays : Arrays

-- ---- what is asked

-- the file of piece k
abbrev pub piece_file_of : ℕ → Placed → (prefix : List ℕ) → ℕ → File
piece_file_of array x prefix k = record { name = piece_name prefix (row_of x.layout k) (column_of x.layout k); source = Piece array k }

abbrev pub line_files : List (Option Placed) → Line → List File
line_files places (SaveLine array file) = record { name = file; source = Whole array } ∷ []
line_files places (SavePieces array prefix) = let x = placed_at places array in map (piece_file_of array x prefix) (range_with_len 0 (x.layout.nprow * x.layout.npcol))
line_files places other = []

unfoldable pub program_files : List (Option Placed) → List Numbered → List File
program_files places lines = flat_map (λ l. line_files places l.line) lines

abbrev pub line_prints : Line → List Print
line_prints (PrintArray array) = print.Array array ∷ []
line_prints (PrintMatrix array rank) = print.Matrix array rank ∷ []
line_prints other = []

unfoldable pub program_prints : List Numbered → List Print
program_prints lines = flat_map (λ l. line_prints l.line) lines

-- the results of these lines, whose arrays are spread so over these grids
unfoldable pub ends_of : List Grid → List (Option Spread) → List Numbered → EndsView
ends_of grids spreads lines = record {
  names = array_names lines;
  places = map (placed_of grids) spreads;
  files = program_files (map (placed_of grids) spreads) lines;
  prints = program_prints lines;
}

-- ---- what is written

-- the text of a file
abbrev pub source_text : List (Option Placed) → Arrays → Source → List ℕ
source_text places arrays (Whole array) = plain_text (whole_matrix arrays array (placed_at places array))
source_text places arrays (Piece array k) = let x = placed_at places array in text_of_piece x.layout k (cells_on arrays array x k)

abbrev pub file_save : List (Option Placed) → Arrays → File → Save
file_save places arrays file = save file.name (source_text places arrays file.source)

unfoldable pub finished_saves : FinishedView → List Save
finished_saves f = map (file_save f.ends.places f.arrays) f.ends.files

-- the name of a file, by its number from 0
abbrev pub name_of_file : List File → ℕ → List ℕ
name_of_file files number = slice_index_or (map (λ f. f.name) files) number []

-- the save of a number, from 0
abbrev pub save_of : FinishedView → ℕ → Save
save_of f number = slice_index_or (finished_saves f) number (save [] [])

abbrev pub print_text : List (List ℕ) → List (Option Placed) → Arrays → Print → List ℕ
print_text names places arrays (print.Array array) = array_text (name_at names array) (whole_matrix arrays array (placed_at places array))
print_text names places arrays (print.Matrix array rank) = matrix_text (name_at names array) rank (local_matrix (cells_of arrays rank array))

unfoldable pub finished_output : FinishedView → List ℕ
finished_output f = flat_map (print_text f.ends.names f.ends.places f.arrays) f.ends.prints
