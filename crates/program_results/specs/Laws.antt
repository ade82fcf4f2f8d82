-- The results that are made of a program are those that its lines say.
use Rattle.std.specs.Prelude.{◌≡◌, List}
use Rattle.grid_lang.specs.declared.line.Numbered.{Numbered}
use Rattle.program_meaning.specs.ProgramState.{ProgramState}
use Rattle.program_results.specs.Results.{program_saves, program_output}
use Rattle.program_results.specs.EndsView.{FinishedView, ends_of, finished_saves, finished_output}

-- the results of a program with the arrays of the state after it
abbrev pub finished_in : ProgramState → List Numbered → FinishedView
finished_in s program = record { ends = ends_of s.grids s.spreads program; arrays = s.state.arrays }

-- they save and print what its lines say
pub record IsTheProgramsResult (s : ProgramState) (program : List Numbered) : Type 0 where
  pub saves : finished_saves (finished_in s program) ≡ program_saves s program
  pub output : finished_output (finished_in s program) ≡ program_output s program

abbrev pub AreTheProgramsResults : Type 0
AreTheProgramsResults = (s : ProgramState) (program : List Numbered) → IsTheProgramsResult s program
