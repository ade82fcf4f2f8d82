-- The results that are made of a program are those that its lines say.
use Rattle.std.proofs.Common.{◌≡◌, ℕ, ◌*◌, List, Option, refl, ◌∙◌, append-nil}
use Rattle.std.specs.Prelude.{map}
use Rattle.std.specs.List.{flat_map, range_with_len}
use Rattle.mr2d.specs.Homes.{Arrays}
use Rattle.grid_lang.specs.declared.line.Line.{Line}
use Rattle.grid_lang.specs.declared.line.Line.TheVariants.{Save, SavePieces, PrintArray, PrintMatrix}
use Rattle.grid_lang.specs.declared.line.Numbered.{Numbered}
use Rattle.program_meaning.specs.ProgramState.{ProgramState}
use Rattle.program_results.specs.Placed.{Placed, placed_at}
use Rattle.program_results.specs.Results.{places_in, line_saves, program_saves, array_names, line_output, program_output}
use Rattle.program_results.specs.EndsView.{line_files, program_files, line_prints, program_prints, piece_file_of, ends_of, file_save, finished_saves, print_text, finished_output}
use Rattle.program_results.specs.Laws.{finished_in, AreTheProgramsResults}
use Rattle.program_results.proofs.ListLaws.{map_flat, flat_flat, flat_same, map_map}

saves_of_line : (places : List (Option Placed)) (arrays : Arrays) (l : Line) → map (file_save places arrays) (line_files places l) ≡ line_saves places arrays l
saves_of_line places arrays (Save array file) = refl
saves_of_line places arrays (SavePieces array prefix) = let x = placed_at places array in map_map (file_save places arrays) (piece_file_of array x prefix) (range_with_len 0 (x.layout.nprow * x.layout.npcol))
saves_of_line places arrays other = refl

output_of_line : (names : List (List ℕ)) (places : List (Option Placed)) (arrays : Arrays) (l : Line) → flat_map (print_text names places arrays) (line_prints l) ≡ line_output names places arrays l
output_of_line names places arrays (PrintArray array) = append-nil _
output_of_line names places arrays (PrintMatrix array rank) = append-nil _
output_of_line names places arrays other = refl

pub saves_are : (s : ProgramState) (program : List Numbered) → finished_saves (finished_in s program) ≡ program_saves s program
unfolding finished_saves program_saves ends_of program_files
saves_are s program =
    map_flat (file_save (places_in s) s.state.arrays) (λ (l : Numbered). line_files (places_in s) l.line) program
    ∙ flat_same _ _ program (λ l. saves_of_line (places_in s) s.state.arrays l.line)

pub output_is : (s : ProgramState) (program : List Numbered) → finished_output (finished_in s program) ≡ program_output s program
unfolding finished_output program_output ends_of program_prints
output_is s program =
    flat_flat (print_text (array_names program) (places_in s) s.state.arrays) (λ (l : Numbered). line_prints l.line) program
    ∙ flat_same _ _ program (λ l. output_of_line (array_names program) (places_in s) s.state.arrays l.line)

pub are_results : AreTheProgramsResults
are_results s program = record { saves = saves_are s program; output = output_is s program }
