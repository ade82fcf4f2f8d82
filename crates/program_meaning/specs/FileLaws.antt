-- What holds of every program with its files.
use Rattle.std.specs.Prelude.{◌≡◌, ◌≤◌, ◌^◌, IsTrue, List, ◌++◌, Result}
use Rattle.store_io.specs.Outside.{Outside}
use Rattle.grid_lang.specs.declared.line.Line.{Line}
use Rattle.grid_lang.specs.declared.line.Numbered.{Numbered}
use Rattle.program_meaning.specs.declared.fault.ExecFault.{ExecFault}
use Rattle.program_meaning.specs.ProgramState.{ProgramState}
use Rattle.program_meaning.specs.WithFiles.{LineGives, Reaches}

-- where the store tells, a line comes to one answer
abbrev pub LinesAreDecided : Type 0
LinesAreDecided = (store : Outside) → IsTrue store.told → (s : ProgramState) (l : Line) (r q : Result ProgramState ExecFault) → LineGives store s l r → LineGives store s l q → r ≡ q

-- and lines one after the other come to one state
abbrev pub StatesAreDecided : Type 0
StatesAreDecided = (store : Outside) → IsTrue store.told → (s : ProgramState) (lines : List Numbered) (t u : ProgramState) → Reaches store s lines t → Reaches store s lines u → t ≡ u

-- doing some lines and then others is doing all of them
abbrev pub AreReachedInTurn : Type 0
AreReachedInTurn = (store : Outside) (s t u : ProgramState) (xs ys : List Numbered) → Reaches store s xs t → Reaches store t ys u → Reaches store s (xs ++ ys) u

-- no more than 2^26 words after lines that are done
abbrev pub AreFewReached : Type 0
AreFewReached = (store : Outside) (s t : ProgramState) (lines : List Numbered) → s.words ≤ 2 ^ 26 → Reaches store s lines t → t.words ≤ 2 ^ 26
