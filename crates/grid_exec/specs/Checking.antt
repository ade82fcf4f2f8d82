-- What checking a program answers.
use Rattle.std.specs.Prelude.{◌≡◌, ℕ, List, drop, Result, Ok, Err}
use Rattle.line_text.specs.Formats.{Refusal}
use Rattle.msg_core.specs.Plans.{PlanView}
use Rattle.pack_words.specs.declared.rank_op.RankOp.{RankOp}
use Rattle.pack_words.specs.GridState.{GridState}
use Rattle.pack_words.specs.GridPlans.{IsOf}
use Rattle.grid_lang.specs.declared.line.Numbered.{Numbered}
use Rattle.program_meaning.specs.declared.fault.ExecFault.{ExecFault}
use Rattle.program_meaning.specs.ProgramState.{ProgramState}
use Rattle.program_meaning.specs.Programs.{lines_done, no_loads}
use Rattle.line_plans.specs.declared.declared.Declared.{Declared}
use Rattle.line_plans.specs.declared.halt.Halt.{Halt}
use Rattle.line_plans.specs.declared.halt.Halt.TheVariants.{Fault, NoMemory}
use Rattle.line_plans.specs.Exact.{IsExact}
use Rattle.line_plans.specs.Standing.{state_of, IsFresh}
use Rattle.grid_exec.specs.declared.err.ExecErr.{ExecErr}
use Rattle.grid_exec.specs.declared.err.ExecErr.TheVariants as err
use Rattle.grid_exec.specs.declared.summary.Summary.{Summary}

-- the numbers of the state that the program leaves, or its first refused line with the fault; out of memory may stand in the place of any answer
abbrev pub IsChecked : Result Summary ExecErr → Result ProgramState (Refusal ExecFault) → Type 0
IsChecked (Ok sum) (Ok s) = sum ≡ record { ranks = s.shapes.ranks; operations = s.operations; messages = s.messages; words = s.words }
IsChecked (Ok sum) (Err r) = ⊥
IsChecked (Err (err.Bad line fault)) (Ok s) = ⊥
IsChecked (Err (err.Bad line fault)) (Err r) = (line ≡ r.line) × (fault ≡ r.fault)
IsChecked (Err (err.Load name e)) r = ⊥
IsChecked (Err err.NoMemory) r = Unit {0}

-- a line at the front is answered as its meaning says, where no file is looked at
abbrev pub IsChecking : Result Declared Halt → PlanView RankOp → Result ProgramState ExecFault → Type 0
IsChecking (Ok d) p (Ok s) = IsFresh d p s
IsChecking (Ok d) p (Err f) = ⊥
IsChecking (Err (Fault f)) p (Ok s) = ⊥
IsChecking (Err (Fault f)) p (Err e) = f ≡ e
IsChecking (Err NoMemory) p r = Unit {0}

-- the lines that are left give what all lines give, from a state for which these stand
pub record IsOnTheWay (d : Declared) (p : PlanView RankOp) (from : ProgramState) (all rest : List Numbered) : Type 0 where
  pub state : GridState
  pub of_plan : IsOf d.shapes p state
  pub exact : IsExact d.shapes state
  pub same : lines_done no_loads from all ≡ lines_done no_loads (state_of d p state) rest

-- the lines at the front are done, so many, or the first refused one is told
abbrev pub IsFrontDone : Result (Declared × ℕ) ExecErr → PlanView RankOp → ProgramState → List Numbered → Type 0
IsFrontDone (Ok x) p from all = IsOnTheWay x.0 p from all (drop x.1 all)
IsFrontDone (Err (err.Bad line fault)) p from all = lines_done no_loads from all ≡ Err (record { line = line; fault = fault })
IsFrontDone (Err (err.Load name e)) p from all = ⊥
IsFrontDone (Err err.NoMemory) p from all = Unit {0}
