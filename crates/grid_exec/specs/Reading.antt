-- What the declarations of a program come to, with its files.
use Rattle.std.specs.Prelude.{◌≡◌, ℕ, IsTrue, List, ◌∷◌, ◌++◌, take, Result, Ok, Err}
use Rattle.store_io.specs.Outside.{Outside, SameCounts}
use Rattle.mm_text.specs.Loading.{Refuses, Because}
use Rattle.mm_text.specs.declared.matrix.LoadErr.{LoadErr}
use Rattle.mm_text.specs.declared.matrix.LoadErr.TheVariants as load
use Rattle.msg_core.specs.Plans.{PlanView}
use Rattle.pack_words.specs.declared.rank_op.RankOp.{RankOp}
use Rattle.grid_lang.specs.declared.line.Line.{Line}
use Rattle.grid_lang.specs.declared.line.Line.TheVariants.{Load}
use Rattle.grid_lang.specs.declared.line.Numbered.{Numbered}
use Rattle.program_meaning.specs.declared.fault.ExecFault.{ExecFault}
use Rattle.program_meaning.specs.ProgramState.{ProgramState}
use Rattle.program_meaning.specs.WithFiles.{LineGives, Reaches}
use Rattle.line_plans.specs.declared.halt.Halt.{Halt}
use Rattle.line_plans.specs.declared.halt.Halt.TheVariants.{Fault, NoMemory}
use Rattle.line_plans.specs.Standing.{state_of}
use Rattle.grid_exec.specs.declared.err.ExecErr.{ExecErr}
use Rattle.grid_exec.specs.declared.err.ExecErr.TheVariants as err
use Rattle.grid_exec.specs.declared.held.Held.{Held}
use Rattle.grid_exec.specs.Holding.{resting}

-- the state of the program whose declarations and arrays these are
abbrev pub standing : Held → PlanView RankOp → ProgramState
standing h p = state_of h.declared p (resting h.contents)

-- a declaration is answered as its meaning says; out of memory may stand in the place of any answer
abbrev pub IsHeld : Result Held Halt → PlanView RankOp → Result ProgramState ExecFault → Type 0
IsHeld (Ok h) p (Ok s) = s ≡ standing h p
IsHeld (Ok h) p (Err f) = ⊥
IsHeld (Err (Fault f)) p (Ok s) = ⊥
IsHeld (Err (Fault f)) p (Err e) = f ≡ e
IsHeld (Err NoMemory) p r = Unit {0}

-- want of memory is told as such, and not as a file's
abbrev pub IsOfFile : LoadErr → Type 0
IsOfFile load.Missing = Unit {0}
IsOfFile load.Failed = Unit {0}
IsOfFile (load.Mm e) = Unit {0}
IsOfFile load.NoMemory = ⊥

-- a LOAD line of that file, of which the store gives no matrix for this reason
pub record IsUnread (store : Outside) (line : Line) (name : List ℕ) (e : LoadErr) : Type 0 where
  pub array : ℕ
  pub is : line ≡ Load array name
  pub why : IsTrue store.told → Refuses e store.files name
  pub of_file : IsOfFile e

-- a line at the front is answered as its meaning says, or by its file; out of memory may stand in the place of any answer
abbrev pub IsLineFilled : Result Held ExecErr → Outside → Numbered → PlanView RankOp → ProgramState → Type 0
IsLineFilled (Ok h) store l p s = LineGives store s l.line (Ok (standing h p))
IsLineFilled (Err (err.Bad n f)) store l p s = (n ≡ l.number) × LineGives store s l.line (Err f)
IsLineFilled (Err (err.Load name e)) store l p s = IsUnread store l.line name e
IsLineFilled (Err err.NoMemory) store l p s = Unit {0}

-- of these lines the first that is refused has this number and this fault
pub record RefusesFrom (store : Outside) (from : ProgramState) (all : List Numbered) (number : ℕ) (fault : ExecFault) : Type 0 where
  pub before : List Numbered
  pub line : Numbered
  pub after : List Numbered
  pub whole : all ≡ before ++ line ∷ after
  pub state : ProgramState
  pub reached : Reaches store from before state
  pub number_is : number ≡ line.number
  pub refused : LineGives store state line.line (Err fault)

-- of these lines one reads that file in vain, and the lines before it are done
pub record UnreadFrom (store : Outside) (from : ProgramState) (all : List Numbered) (name : List ℕ) (e : LoadErr) : Type 0 where
  pub before : List Numbered
  pub line : Numbered
  pub after : List Numbered
  pub whole : all ≡ before ++ line ∷ after
  pub state : ProgramState
  pub reached : Reaches store from before state
  pub unread : IsUnread store line.line name e

-- the lines at the front are done, so many, or the first of them that is refused or unread is told
abbrev pub IsFilled : Result (Held × ℕ) ExecErr → Outside → PlanView RankOp → ProgramState → List Numbered → Type 0
IsFilled (Ok x) store p from all = Reaches store from (take x.1 all) (standing x.0 p)
IsFilled (Err (err.Bad n f)) store p from all = RefusesFrom store from all n f
IsFilled (Err (err.Load name e)) store p from all = UnreadFrom store from all name e
IsFilled (Err err.NoMemory) store p from all = Unit {0}

-- no count moves but for a file that is missing or fails
abbrev pub HasPlanCause : {X : Type 0} → Result X ExecErr → Outside → Outside → Type 0
HasPlanCause (Ok x) old new = SameCounts old new
HasPlanCause (Err (err.Bad n f)) old new = SameCounts old new
HasPlanCause (Err (err.Load name e)) old new = Because e old new
HasPlanCause (Err err.NoMemory) old new = SameCounts old new
