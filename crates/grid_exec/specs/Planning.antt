-- What planning the exchanges of a program answers.
use Rattle.std.specs.Prelude.{◌≡◌, ℕ, List, [], Result, Ok, Err}
use Rattle.line_text.specs.Formats.{Refusal}
use Rattle.msg_core.specs.Plans.{PlanView}
use Rattle.pack_words.specs.declared.rank_op.RankOp.{RankOp}
use Rattle.pack_words.specs.GridState.{GridState}
use Rattle.pack_words.specs.GridPlans.{IsOf}
use Rattle.grid_lang.specs.declared.line.Numbered.{Numbered}
use Rattle.program_meaning.specs.declared.fault.ExecFault.{ExecFault}
use Rattle.program_meaning.specs.ProgramState.{ProgramState}
use Rattle.program_meaning.specs.Programs.{lines_done, no_loads}
use Rattle.line_plans.specs.declared.declared.Declared.{Declared}
use Rattle.line_plans.specs.declared.halt.Halt.{Halt}
use Rattle.line_plans.specs.declared.halt.Halt.TheVariants.{Fault, NoMemory}
use Rattle.line_plans.specs.Standing.{state_of, IsAt, Carries}
use Rattle.grid_exec.specs.declared.err.ExecErr.{ExecErr}
use Rattle.grid_exec.specs.declared.err.ExecErr.TheVariants as err

-- why planning stops at a line of this number
abbrev pub stop_of : ℕ → Halt → ExecErr
stop_of line (Fault f) = err.Bad line f
stop_of line NoMemory = err.NoMemory

-- the lines are all done by operations that were appended, or the first refused one is told; out of memory may stand in the place of any answer
abbrev pub IsPlanned : Result (Unit {0}) ExecErr → Declared → PlanView RankOp → PlanView RankOp → GridState → Result ProgramState (Refusal ExecFault) → Type 0
IsPlanned (Ok done) d p q state (Ok s) = IsAt d q s × Carries d.shapes p q state s.state
IsPlanned (Ok done) d p q state (Err r) = ⊥
IsPlanned (Err (err.Bad line fault)) d p q state (Ok s) = ⊥
IsPlanned (Err (err.Bad line fault)) d p q state (Err r) = (line ≡ r.line) × (fault ≡ r.fault)
IsPlanned (Err (err.Load name e)) d p q state r = ⊥
IsPlanned (Err err.NoMemory) d p q state r = Unit {0}

-- the lines that are left give what all lines give, after the operations that were appended so far
pub record IsUnderWay (d : Declared) (p q : PlanView RankOp) (from : GridState) (all rest : List Numbered) : Type 0 where
  pub state : GridState
  pub of_plan : IsOf d.shapes q state
  pub carries : Carries d.shapes p q from state
  pub same : lines_done no_loads (state_of d p from) all ≡ lines_done no_loads (state_of d q state) rest
