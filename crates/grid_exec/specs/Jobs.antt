-- The job of a program: what every run of it comes to.
use Rattle.std.specs.Prelude.{◌≡◌, ℕ, List, length, map}
use Rattle.machine.specs.Machine.{Rules, IsOver, IsRun}
use Rattle.machine.specs.Orders.{AreEnough}
use Rattle.msg_core.specs.Kinds.{kinds_of, lists_of}
use Rattle.msg_core.specs.Machine.{first_state, after}
use Rattle.pack_words.specs.GridState.{rank_steps, rank_nodes, arrays_held}
use Rattle.grid_lang.specs.declared.line.Numbered.{Numbered}
use Rattle.program_meaning.specs.ProgramState.{ProgramState}
use Rattle.program_results.specs.EndsView.{ends_of}
use Rattle.grid_exec.specs.JobView.{JobView, arrays_after}

-- Every run of the plan that can't be continued, in whichever order the ranks step and with queues without bound or of at
-- least the pair's occupancy, has as many steps as the program has operations, and ends in the program's arrays.
abbrev pub EveryEndIsTheProgram : JobView → ProgramState → Type 0
EveryEndIsTheProgram job s =
    (rules : Rules) → AreEnough (kinds_of rank_steps job.plan.steps) rules → (trace : List ℕ) → IsRun (lists_of rank_steps job.plan.steps) rules trace →
    let end = after rank_steps rank_nodes job.plan.steps trace (first_state job.nodes) in
    IsOver (lists_of rank_steps job.plan.steps) rules end.done →
    (length trace ≡ s.operations) × (map arrays_held end.world.nodes ≡ s.state.arrays)

-- the job of a program that leaves this state
pub record IsJobOf (job : JobView) (s : ProgramState) (program : List Numbered) : Type 0 where
  pub operations : length job.plan.steps ≡ s.operations
  pub every_end : EveryEndIsTheProgram job s
  pub arrays : arrays_after job ≡ s.state.arrays
  pub ends : job.ends ≡ ends_of s.grids s.spreads program
