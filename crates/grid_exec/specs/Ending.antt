-- What stands after the last exchange.
use Rattle.std.specs.Prelude.{◌≡◌, ◌≤◌, ◌^◌, ℕ, List, Result, Ok, Err}
use Rattle.msg_core.specs.Plans.{PlanView}
use Rattle.pack_words.specs.declared.rank_op.RankOp.{RankOp}
use Rattle.pack_words.specs.GridState.{GridState}
use Rattle.pack_words.specs.GridPlans.{PlanMeans}
use Rattle.store_io.specs.Outside.{Outside}
use Rattle.grid_lang.specs.declared.line.Numbered.{Numbered}
use Rattle.program_meaning.specs.ProgramState.{ProgramState}
use Rattle.program_meaning.specs.WithFiles.{Reaches}
use Rattle.line_plans.specs.Standing.{IsAt}
use Rattle.std.specs.List.{AllByRecursion}
use Rattle.program_results.specs.Standing.{AsksFor as Asks}
use Rattle.grid_exec.specs.declared.err.ExecErr.{ExecErr}
use Rattle.grid_exec.specs.declared.err.ExecErr.TheVariants as err
use Rattle.grid_exec.specs.declared.held.Held.{Held}
use Rattle.grid_exec.specs.declared.planning.Planned.{Planned}
use Rattle.grid_exec.specs.Holding.{resting}
use Rattle.grid_exec.specs.Reading.{RefusesFrom, UnreadFrom}

-- the plan leads from the arrays that rest to those of this state
pub record EndsAt (held : Held) (p : PlanView RankOp) (s : ProgramState) : Type 0 where
  pub at : IsAt held.declared p s
  pub ranks : p.ranks ≡ held.declared.shapes.ranks
  pub does : GridState → GridState
  pub means : PlanMeans held.declared.shapes p does
  pub gives : s.state ≡ does (resting held.contents)
  pub few : s.words ≤ 2 ^ 26

-- the lines after RANKS are all done, or the first of them that is refused or unread is told; out of memory may stand in the place of any answer
abbrev pub IsPlanEnd : Result Planned ExecErr → Outside → ProgramState → List Numbered → Type 0
IsPlanEnd (Ok x) store from lines = (s : ProgramState) × Reaches store from lines s × EndsAt x.held x.plan s
IsPlanEnd (Err (err.Bad n f)) store from lines = RefusesFrom store from lines n f
IsPlanEnd (Err (err.Load name e)) store from lines = UnreadFrom store from lines name e
IsPlanEnd (Err err.NoMemory) store from lines = Unit {0}

-- the result lines ask for arrays that are declared
abbrev pub AsksFor : Planned → List Numbered → Type 0
AsksFor x lines = AllByRecursion (λ l. Asks x.held.declared.shapes.ranks x.held.declared.spreads.items l.line) lines
