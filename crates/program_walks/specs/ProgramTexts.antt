-- What is said of a grid program: of a fault in it, in parts, and of its numbers.
use Rattle.std.specs.Prelude.{ℕ, List, [], ◌∷◌, ◌++◌, codes}
use Rattle.std.specs.Fmt.{decimal, signed_decimal}
use Rattle.line_text.specs.Lines.{ended}
use Rattle.proc_grid.specs.declared.grid_err.GridErr.{GridErr}
use Rattle.proc_grid.specs.declared.grid_err.GridErr.TheVariants as grid
use Rattle.scope_ops.specs.declared.scope_err.ScopeErr.{ScopeErr}
use Rattle.scope_ops.specs.declared.scope_err.ScopeErr.TheVariants as scope
use Rattle.grid_lang.specs.declared.fault.LangFault.{LangFault}
use Rattle.grid_lang.specs.declared.fault.LangFault.TheVariants.{NotText, Unknown, Order, Words, Number, Name, Twice, Limit}
use Rattle.program_meaning.specs.declared.fault.ExecFault.{ExecFault}
use Rattle.program_meaning.specs.declared.fault.ExecFault.TheVariants as fault
use Rattle.program_meaning.specs.ProgramState.{ProgramState}

-- of a line that is no line of a program
unfoldable pub lang_fault_text : LangFault → List (List ℕ)
lang_fault_text NotText = codes "byte that is not text" ∷ []
lang_fault_text Unknown = codes "unknown word" ∷ []
lang_fault_text Order = codes "line out of order" ∷ []
lang_fault_text Words = codes "wrong number of words" ∷ []
lang_fault_text Number = codes "bad number" ∷ []
lang_fault_text Name = codes "bad name" ∷ []
lang_fault_text Twice = codes "name given twice" ∷ []
lang_fault_text Limit = codes "limit passed" ∷ []

-- of a grid
unfoldable pub grid_fault_text : GridErr → List (List ℕ)
grid_fault_text (grid.BadShape rows columns) = codes "bad grid shape " ∷ decimal rows ∷ codes " " ∷ decimal columns ∷ []
grid_fault_text (grid.TooMany places ranks) = codes "grid needs " ∷ decimal places ∷ codes " ranks of " ∷ decimal ranks ∷ []
grid_fault_text grid.BadLead = codes "bad leading dimension" ∷ []
grid_fault_text (grid.NoProcess rank) = codes "no process " ∷ decimal rank ∷ []
grid_fault_text (grid.Twice rank) = codes "process " ∷ decimal rank ∷ codes " named twice" ∷ []
grid_fault_text grid.NoMemory = codes "out of memory" ∷ []

-- of a message, a broadcast, a combine or a barrier
unfoldable pub scope_fault_text : ScopeErr → List (List ℕ)
scope_fault_text scope.NotInGrid = codes "no such place in the grid" ∷ []
scope_fault_text scope.SameArray = codes "the same array twice" ∷ []
scope_fault_text scope.OutOfArray = codes "region outside the array" ∷ []
scope_fault_text (scope.BadRcLead lead rows) = codes "leading dimension " ∷ decimal lead ∷ codes " less than " ∷ decimal rows ∷ []
scope_fault_text (scope.NoMessage from to) = codes "no message from " ∷ decimal from ∷ codes " to " ∷ decimal to ∷ []
scope_fault_text (scope.WrongLength have want) = codes "message has " ∷ decimal have ∷ codes " words, want " ∷ decimal want ∷ []
scope_fault_text scope.TooManyOps = codes "too many operations" ∷ []
scope_fault_text scope.NoMemory = codes "out of memory" ∷ []

-- of a line that its call, a message that waits, the limit of words, or the size of its file refuses
unfoldable pub exec_fault_text : ExecFault → List (List ℕ)
exec_fault_text (fault.Grid e) = grid_fault_text e
exec_fault_text (fault.Info info) = codes "INFO " ∷ signed_decimal info.0 ∷ []
exec_fault_text (fault.Scope e) = scope_fault_text e
exec_fault_text fault.SameArray = codes "the same array twice" ∷ []
exec_fault_text fault.TooManyOps = codes "too many operations" ∷ []
exec_fault_text (fault.Waiting from to) = codes "message from " ∷ decimal from ∷ codes " to " ∷ decimal to ∷ codes " still waits" ∷ []
exec_fault_text (fault.TooLarge words) = codes "too many words: " ∷ decimal words ∷ []
exec_fault_text (fault.Size m n rows columns) =
    codes "file is " ∷ decimal m ∷ codes " " ∷ decimal n ∷ codes ", array is " ∷ decimal rows ∷ codes " " ∷ decimal columns ∷ []

-- a line with a number
abbrev pub number_line : (what : List ℕ) → ℕ → List ℕ
number_line what n = ended (what ++ decimal n)

-- the numbers of a program, a line each: ranks, operations, messages, and the words of all arrays and messages
unfoldable pub summary_text : (ranks operations messages words : ℕ) → List ℕ
summary_text ranks operations messages words =
    number_line (codes "ranks ") ranks ++ (number_line (codes "operations ") operations ++ (number_line (codes "messages ") messages ++ number_line (codes "words ") words))

abbrev pub numbers_text : ProgramState → List ℕ
numbers_text s = summary_text s.shapes.ranks s.operations s.messages s.words
