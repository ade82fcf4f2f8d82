-- Lines that are done with their files are those that the walk of `run` comes past.
use Rattle.std.proofs.Common.{◌≡◌, ℕ, IsTrue, List, [], ◌∷◌, ◌++◌, Option, Some, Result, Ok, Err, refl, sym, ap, subst, ◌∙◌, inl, inr}
use Rattle.store_io.specs.Outside.{Outside, Files}
use Rattle.mm_grammar.specs.Width.{width32}
use Rattle.mm_grammar.specs.Matrix.{Matrix as Cells}
use Rattle.mm_grammar.specs.Reading.{read_text}
use Rattle.mm_grammar.proofs.Laws.{reading}
use Rattle.grid_lang.specs.declared.line.Line.{Line}
use Rattle.grid_lang.specs.declared.line.Line.TheVariants.{Load}
use Rattle.grid_lang.specs.declared.line.Numbered.{Numbered}
use Rattle.program_meaning.specs.declared.fault.ExecFault.{ExecFault}
use Rattle.program_meaning.specs.ProgramState.{ProgramState, begun}
use Rattle.program_meaning.specs.Declarations.{load_line}
use Rattle.program_meaning.specs.Programs.{line_done, no_loads}
use Rattle.program_meaning.specs.WithFiles.{HoldsMatrix, LineGives, Reaches, IsRefusedAt, IsReadAt}
use Rattle.tool_lines.specs.Texts.{at_line}
use Rattle.command_walks.specs.Walk.{Walk, Reads, Refuses, Comes, Needs}
use Rattle.command_walks.specs.ReadingWalks.{with_matrix, matrix_walk}
use Rattle.command_walks.specs.declared.status.Status.TheVariants.{Refused}
use Rattle.command_walks.proofs.WalkLaws.{comes_here, comes_on, comes_from}
use Rattle.program_walks.specs.ProgramTexts.{exec_fault_text}
use Rattle.program_walks.specs.ProgramWalks.{with_state, line_walk, lines_walk, ran_walk, results_walk}

-- the walk comes past the matrix that a file holds
matrix_held : (store : Outside) → IsTrue store.told → (file : List ℕ) (next : Cells → Walk) (m : Cells) → HoldsMatrix store file m → Comes (matrix_walk file next) store.files (next m)
unfolding matrix_walk
matrix_held store told file next m holds =
    let h = holds told in
    let here : Comes (with_matrix file (read_text width32 h.0) next) store.files (next m)
    = subst (λ r. Comes (with_matrix file r next) store.files (next m)) (sym ((reading width32).reads h.0 m h.2)) (comes_here (next m) store.files) in
    inr (h.0, h.1, here)

-- where a line leads to: on with the state that it leaves, or it is refused
abbrev pub outcome_of : (name : List ℕ) → (number : ℕ) → Result ProgramState ExecFault → (ProgramState → Walk) → Walk
outcome_of name number r next = with_state name number r next

state_given : (files : Files) (name : List ℕ) (number : ℕ) (r q : Result ProgramState ExecFault) (next : ProgramState → Walk) → q ≡ r → Comes (with_state name number q next) files (with_state name number r next)
state_given files name number r q next e = subst (λ (x : Result ProgramState ExecFault). Comes (with_state name number q next) files (with_state name number x next)) e (comes_here (with_state name number q next) files)

loaded_line : (store : Outside) → IsTrue store.told → (name : List ℕ) (number : ℕ) (s : ProgramState) (array : ℕ) (file : List ℕ) (r : Result ProgramState ExecFault) (next : ProgramState → Walk) → LineGives store s (Load array file) r
    → Comes (line_walk name number s (Load array file) next) store.files (with_state name number r next)
loaded_line store told name number s array file r next h =
    let w : Cells → Walk = λ m. with_state name number (load_line (Some m) array s) next in
    comes_on (matrix_walk file w) store.files (w h.0) (with_state name number r next) (matrix_held store told file w h.0 h.1) (state_given store.files name number r (load_line (Some h.0) array s) next h.2)

-- a line leads to what it gives
pub line_comes : (store : Outside) → IsTrue store.told → (name : List ℕ) (number : ℕ) (s : ProgramState) (l : Line) (r : Result ProgramState ExecFault) (next : ProgramState → Walk) → LineGives store s l r
    → Comes (line_walk name number s l next) store.files (with_state name number r next)
line_comes store told name number s (Load array file) r next h = loaded_line store told name number s array file r next h
line_comes store told name number s other r next h = state_given store.files name number r (line_done no_loads s other) next h

-- lines that are done lead to the state that they leave, and on with the lines after them
pub lines_come : (store : Outside) → IsTrue store.told → (name : List ℕ) (s t : ProgramState) (lines after : List Numbered) (next : ProgramState → Walk) → Reaches store s lines t
    → Comes (lines_walk name s (lines ++ after) next) store.files (lines_walk name t after next)
unfolding lines_walk
lines_come store told name s t [] after next h = subst (λ (x : ProgramState). Comes (lines_walk name s after next) store.files (lines_walk name x after next)) h (comes_here (lines_walk name s after next) store.files)
lines_come store told name s t (l ∷ more) after next h =
    let go : ProgramState → Walk = λ x. lines_walk name x (more ++ after) next in
    comes_on (line_walk name l.number s l.line go) store.files (go h.0) (lines_walk name t after next) (line_comes store told name l.number s l.line (Ok h.0) go h.1) (lines_come store told name h.0 t more after next h.2)
