-- The status and the line of what keeps a command from its end.
use Rattle.std.specs.Prelude.{ℕ, List, [], Option, Result, Ok, Err}
use Rattle.store_io.specs.Outside.{Outside, Poured}
use Rattle.mm_reader.specs.Views.{fault_of}
use Rattle.piece_file.specs.FaultView.{fault_view}
use Rattle.tool_lines.specs.Texts.{missing, store_fault, at_line, too_many_words, out_of_memory, output_fault}
use Rattle.tool_lines.specs.FaultTexts.{matrix_fault_text, piece_fault_text}
use Rattle.program_walks.specs.ProgramTexts.{lang_fault_text, exec_fault_text}
use Rattle.command_walks.specs.Walk.{Walk}
use Rattle.command_walks.specs.Outcome.{Leaves}
use Rattle.command_walks.specs.Following.{StopsWith}
use Rattle.command_walks.specs.declared.status.Status.{Status}
use Rattle.command_walks.specs.declared.status.Status.TheVariants as status
use Rattle.file_tools.specs.declared.trouble.Trouble.{Trouble}
use Rattle.file_tools.specs.declared.trouble.Trouble.TheVariants.{Missing, Failed, Matrix, Piece, Program, Line, TooMany, NoMemory, Output}

abbrev pub status_of : Trouble → Status
status_of (Missing name) = status.Store
status_of (Failed name) = status.Store
status_of (Matrix name error) = status.Refused
status_of (Piece name line fault) = status.Refused
status_of (Program name line what) = status.Refused
status_of (Line name line fault) = status.Refused
status_of (TooMany words) = status.Refused
status_of NoMemory = status.NoMemory
status_of Output = status.Sink

abbrev pub line_of : Trouble → List ℕ
line_of (Missing name) = missing name
line_of (Failed name) = store_fault name
line_of (Matrix name error) = at_line name error.line (matrix_fault_text (fault_of error.what))
line_of (Piece name line fault) = at_line name line (piece_fault_text (fault_view fault))
line_of (Program name line what) = at_line name line (lang_fault_text what)
line_of (Line name line fault) = at_line name line (exec_fault_text fault)
line_of (TooMany words) = too_many_words words
line_of NoMemory = out_of_memory
line_of Output = output_fault

-- the status and the line of what a command answers
abbrev pub status_in : {X : Type 0} → Result X Trouble → Status
status_in (Ok x) = status.Done
status_in (Err trouble) = status_of trouble

abbrev pub line_in : {X : Type 0} → Result X Trouble → List ℕ
line_in (Ok x) = []
line_in (Err trouble) = line_of trouble

-- what a command leaves that follows this walk, by what it answers
abbrev pub Follows : {X : Type 0} → Result X Trouble → (walk : Walk) → (names : Option (List (List ℕ))) → (old new : Outside) → (before after : Poured) → Type 0
Follows (Ok x) walk names old new before after = Leaves status.Done walk names [] old new before after
Follows (Err trouble) walk names old new before after = Leaves (status_of trouble) walk names (line_of trouble) old new before after

-- a command stops at this trouble, and its output is as it was
abbrev pub Stops : Trouble → (walk : Walk) → (names : Option (List (List ℕ))) → (old new : Outside) → Type 0
Stops trouble walk names old new = StopsWith (status_of trouble) (line_of trouble) walk names old new
