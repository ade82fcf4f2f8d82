-- What holds of the lines of every program.
use Rattle.std.specs.Prelude.{◌≡◌, ◌≤◌, ◌^◌, List, ◌∷◌, ◌++◌, Ok, Err}
use Rattle.line_text.specs.Formats.{Refusal, and_then}
use Rattle.grid_lang.specs.declared.line.Numbered.{Numbered}
use Rattle.program_meaning.specs.declared.fault.ExecFault.{ExecFault}
use Rattle.program_meaning.specs.ProgramState.{ProgramState}
use Rattle.program_meaning.specs.Declarations.{Loads}
use Rattle.program_meaning.specs.Programs.{line_done, lines_done}

-- doing some lines and then others is doing all of them
abbrev pub AreDoneInTurn : Type 0
AreDoneInTurn = (loads : Loads) (s : ProgramState) (xs ys : List Numbered) → lines_done loads s (xs ++ ys) ≡ and_then (lines_done loads s xs) (λ t. lines_done loads t ys)

-- a line is the first that is refused: those before it are done, and in the state after them it is refused; what comes after it isn't looked at
pub record IsFirstRefused (loads : Loads) (s : ProgramState) (program : List Numbered) (refusal : Refusal ExecFault) : Type 0 where
  pub before : List Numbered
  pub line : Numbered
  pub after : List Numbered
  pub whole : program ≡ before ++ line ∷ after
  pub state : ProgramState
  pub reached : lines_done loads s before ≡ Ok state
  pub number : refusal.line ≡ line.number
  pub refused : line_done loads state line.line ≡ Err refusal.fault

-- a program that is refused has a first refused line
abbrev pub AreRefusedFirst : Type 0
AreRefusedFirst = (loads : Loads) (s : ProgramState) (program : List Numbered) (refusal : Refusal ExecFault) → lines_done loads s program ≡ Err refusal → IsFirstRefused loads s program refusal

-- and one that has such a line is refused there
abbrev pub AreRefusedThere : Type 0
AreRefusedThere = (loads : Loads) (s : ProgramState) (program : List Numbered) (refusal : Refusal ExecFault) → IsFirstRefused loads s program refusal → lines_done loads s program ≡ Err refusal

-- no more than 2^26 words after lines that are done
abbrev pub AreFewWords : Type 0
AreFewWords = (loads : Loads) (s t : ProgramState) (program : List Numbered) → s.words ≤ 2 ^ 26 → lines_done loads s program ≡ Ok t → t.words ≤ 2 ^ 26

-- and no more than 2^20 operations
abbrev pub AreFewOperations : Type 0
AreFewOperations = (loads : Loads) (s t : ProgramState) (program : List Numbered) → s.operations ≤ 2 ^ 20 → lines_done loads s program ≡ Ok t → t.operations ≤ 2 ^ 20
