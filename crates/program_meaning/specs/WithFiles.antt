-- The program's meaning with the contents of its files: a LOAD line reads its file where it stands, before the lines after it.
use Rattle.std.specs.Prelude.{◌≡◌, ℕ, IsTrue, List, [], ◌∷◌, ◌++◌, Some, Result, Ok, Err}
use Rattle.std.specs.FinMap.{get}
use Rattle.store_io.specs.Outside.{Outside}
use Rattle.mm_grammar.specs.Width.{width32}
use Rattle.mm_grammar.specs.Matrix.{Matrix}
use Rattle.mm_grammar.specs.MatrixText.{IsMatrixText}
use Rattle.grid_lang.specs.declared.line.Line.{Line}
use Rattle.grid_lang.specs.declared.line.Line.TheVariants.{Load}
use Rattle.grid_lang.specs.declared.line.Numbered.{Numbered}
use Rattle.program_meaning.specs.declared.fault.ExecFault.{ExecFault}
use Rattle.program_meaning.specs.ProgramState.{ProgramState, begun}
use Rattle.program_meaning.specs.Declarations.{load_line}
use Rattle.program_meaning.specs.Programs.{line_done, no_loads}

-- where the store tells, it holds the file, and the bytes are a text of the matrix
abbrev pub HoldsMatrix : Outside → List ℕ → Matrix → Type 0
HoldsMatrix store file m = IsTrue store.told → (bytes : List ℕ) × (get store.files file ≡ Some bytes) × IsMatrixText width32 bytes m

-- one line: what it makes of the state, or why it is refused. A LOAD line takes the matrix that its file holds
abbrev pub LineGives : Outside → ProgramState → Line → Result ProgramState ExecFault → Type 0
LineGives store s (Load array file) r = (m : Matrix) × HoldsMatrix store file m × (load_line (Some m) array s ≡ r)
LineGives store s other r = line_done no_loads s other ≡ r

-- some lines, one after the other, lead from a state to another; none of them is refused
abbrev pub Reaches : Outside → ProgramState → List Numbered → ProgramState → Type 0
Reaches store s [] t = s ≡ t
Reaches store s (l ∷ more) t = (next : ProgramState) × LineGives store s l.line (Ok next) × Reaches store next more t

-- the program's first refused line is of this number, with this fault: the lines before it are done, and after them it is refused. What comes after it isn't looked at
pub record IsRefusedAt (store : Outside) (program : List Numbered) (number : ℕ) (fault : ExecFault) : Type 0 where
  pub before : List Numbered
  pub line : Numbered
  pub after : List Numbered
  pub whole : program ≡ before ++ line ∷ after
  pub state : ProgramState
  pub reached : Reaches store (begun 0) before state
  pub number_is : number ≡ line.number
  pub refused : LineGives store state line.line (Err fault)

-- the lines before a LOAD line of this file are done
pub record IsReadAt (store : Outside) (program : List Numbered) (file : List ℕ) : Type 0 where
  pub before : List Numbered
  pub line : Numbered
  pub after : List Numbered
  pub whole : program ≡ before ++ line ∷ after
  pub array : ℕ
  pub is : line.line ≡ Load array file
  pub state : ProgramState
  pub reached : Reaches store (begun 0) before state
