-- What `check` and `run` do: their walks over the files.
use Rattle.std.specs.Prelude.{ℕ, List, [], ◌∷◌, Some, Result, Ok, Err}
use Rattle.line_text.specs.Formats.{Refusal, read_text}
use Rattle.grid_lang.specs.declared.fault.LangFault.{LangFault}
use Rattle.grid_lang.specs.declared.line.Line.{Line}
use Rattle.grid_lang.specs.declared.line.Line.TheVariants.{Load}
use Rattle.grid_lang.specs.declared.line.Numbered.{Numbered}
use Rattle.grid_lang.specs.Programs.{grid_format}
use Rattle.program_meaning.specs.declared.fault.ExecFault.{ExecFault}
use Rattle.program_meaning.specs.ProgramState.{ProgramState, begun}
use Rattle.program_meaning.specs.Declarations.{load_line}
use Rattle.program_meaning.specs.Programs.{line_done, program_done, no_loads}
use Rattle.program_results.specs.Results.{program_saves, program_output}
use Rattle.tool_lines.specs.Texts.{at_line}
use Rattle.command_walks.specs.Walk.{Walk, Reads, Refuses, Ends}
use Rattle.command_walks.specs.ReadingWalks.{matrix_walk}
use Rattle.command_walks.specs.declared.status.Status.TheVariants.{Refused}
use Rattle.program_walks.specs.ProgramTexts.{lang_fault_text, exec_fault_text, numbers_text}

-- the program of a text, or what is wrong with it
abbrev pub with_program : (name : List ℕ) → Result (List Numbered) (Refusal LangFault) → (List Numbered → Walk) → Walk
with_program name (Ok program) next = next program
with_program name (Err r) next = Refuses (at_line name r.line (lang_fault_text r.fault)) Refused

-- the file of this name is read, and is a text of a program
unfoldable pub program_walk : (name : List ℕ) → (next : List Numbered → Walk) → Walk
program_walk name next = Reads name (λ bytes. with_program name (read_text grid_format bytes) next)

-- the state after a line of this number, or why it is refused
abbrev pub with_state : (name : List ℕ) → (number : ℕ) → Result ProgramState ExecFault → (ProgramState → Walk) → Walk
with_state name number (Ok s) next = next s
with_state name number (Err fault) next = Refuses (at_line name number (exec_fault_text fault)) Refused

-- a line is done; LOAD reads its file first, and is done with the matrix of that
abbrev pub line_walk : (name : List ℕ) → (number : ℕ) → ProgramState → Line → (ProgramState → Walk) → Walk
line_walk name number s (Load array file) next = matrix_walk file (λ m. with_state name number (load_line (Some m) array s) next)
line_walk name number s other next = with_state name number (line_done no_loads s other) next

-- lines are done one after the other
unfoldable pub lines_walk : (name : List ℕ) → ProgramState → List Numbered → (ProgramState → Walk) → Walk
lines_walk name s [] next = next s
lines_walk name s (l ∷ more) next = line_walk name l.number s l.line (λ t. lines_walk name t more next)

-- the state after a program whose LOAD files aren't looked at, or the first line that is refused, and why
abbrev pub with_check : (name : List ℕ) → Result ProgramState (Refusal ExecFault) → Walk
with_check name (Ok s) = Ends [] (numbers_text s)
with_check name (Err r) = Refuses (at_line name r.line (exec_fault_text r.fault)) Refused

unfoldable pub checked_walk : (name : List ℕ) → List Numbered → Walk
checked_walk name program = with_check name (program_done no_loads program)

-- `check` reads the program, and tells its numbers
abbrev pub check_walk : (name : List ℕ) → Walk
check_walk name = program_walk name (checked_walk name)

-- what a program saves and prints after its lines
unfoldable pub results_walk : List Numbered → ProgramState → Walk
results_walk program s = Ends (program_saves s program) (program_output s program)

unfoldable pub ran_walk : (name : List ℕ) → List Numbered → Walk
ran_walk name program = lines_walk name (begun 0) program (results_walk program)

-- `run` reads the program and, as its lines come to them, the files of its LOAD lines; when all lines are done it saves and prints
abbrev pub run_walk : (name : List ℕ) → Walk
run_walk name = program_walk name (ran_walk name)
