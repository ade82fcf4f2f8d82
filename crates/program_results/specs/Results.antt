-- What the result lines of a program write, in the state after its lines.
use Rattle.std.specs.Prelude.{ℕ, ◌*◌, List, [], ◌∷◌, Option, map, slice_index_or}
use Rattle.std.specs.List.{flat_map, range_with_len}
use Rattle.mm_grammar.specs.PlainText.{plain_text}
use Rattle.mm_text.specs.LocalMatrix.{local_matrix}
use Rattle.mr2d.specs.Homes.{Arrays, cells_of}
use Rattle.piece_grammar.specs.PlainPiece.{piece_name}
use Rattle.grid_lang.specs.declared.line.Line.{Line}
use Rattle.grid_lang.specs.declared.line.Line.TheVariants.{Array, Matrix, Save as SaveLine, SavePieces, PrintArray, PrintMatrix}
use Rattle.grid_lang.specs.declared.line.Numbered.{Numbered}
use Rattle.program_meaning.specs.ProgramState.{ProgramState}
use Rattle.save_list.specs.Save.{Save, save}
use Rattle.program_results.specs.Placed.{Placed, placed_of, placed_at, whole_matrix, row_of, column_of, cells_on, text_of_piece}
use Rattle.program_results.specs.Printing.{array_text, matrix_text}

-- where each ARRAY lies, by its number
abbrev pub places_in : ProgramState → List (Option Placed)
places_in s = map (placed_of s.grids) s.spreads

-- ---- saves

-- SAVE: the whole matrix
abbrev pub save_whole : Arrays → ℕ → Placed → (file : List ℕ) → Save
save_whole arrays array x file = save file (plain_text (whole_matrix arrays array x))

-- SAVE PIECES: the piece of process k
abbrev pub save_piece : Arrays → ℕ → Placed → (prefix : List ℕ) → ℕ → Save
save_piece arrays array x prefix k = save (piece_name prefix (row_of x.layout k) (column_of x.layout k)) (text_of_piece x.layout k (cells_on arrays array x k))

-- the saves of one line; the pieces stand by rows of the grid
abbrev pub line_saves : List (Option Placed) → Arrays → Line → List Save
line_saves places arrays (SaveLine array file) = save_whole arrays array (placed_at places array) file ∷ []
line_saves places arrays (SavePieces array prefix) = let x = placed_at places array in map (save_piece arrays array x prefix) (range_with_len 0 (x.layout.nprow * x.layout.npcol))
line_saves places arrays other = []

-- the saves of all lines, in their order
unfoldable pub program_saves : ProgramState → List Numbered → List Save
program_saves s program = flat_map (λ l. line_saves (places_in s) s.state.arrays l.line) program

-- ---- output

-- the name that a line gives to an array
abbrev pub array_named : Line → List (List ℕ)
array_named (Array name grid m n mb nb rsrc csrc lld) = name ∷ []
array_named (Matrix name lld cols) = name ∷ []
array_named other = []

-- the names of all arrays, by their numbers
abbrev pub array_names : List Numbered → List (List ℕ)
array_names program = flat_map (λ l. array_named l.line) program

abbrev pub name_at : List (List ℕ) → ℕ → List ℕ
name_at names array = slice_index_or names array []

-- what one line prints
abbrev pub line_output : List (List ℕ) → List (Option Placed) → Arrays → Line → List ℕ
line_output names places arrays (PrintArray array) = array_text (name_at names array) (whole_matrix arrays array (placed_at places array))
line_output names places arrays (PrintMatrix array rank) = matrix_text (name_at names array) rank (local_matrix (cells_of arrays rank array))
line_output names places arrays other = []

-- what all lines print, in their order
unfoldable pub program_output : ProgramState → List Numbered → List ℕ
program_output s program = flat_map (λ l. line_output (array_names program) (places_in s) s.state.arrays l.line) program
