-- What a run needs beside the memories: the tasks of the ranks, their desks, and room.
-- (Bookkeeping inside this crate: no clause of a public call cites it.)
use Rattle.std.specs.Prelude.{◌≡◌, ◌≤◌, ℕ, All, Some, List, [], length, slice_get, reverse, drop, vec_capacity}
use Rattle.msg_core.specs.declared.node.Node.{Ghosts as NodeOf}
use Rattle.msg_core.specs.declared.node.Step.{Ghosts as StepOf}
use Rattle.msg_core.specs.InOrder.{own, letters}
use Rattle.msg_core.specs.Kinds.{kinds_of}
use Rattle.mail_room.specs.Desks.{AreNewDesks}
use Rattle.rank_runner.specs.declared.outfit.Outfit.{Outfit}
use Rattle.rank_runner.specs.Capacity.{occupancy_caps}
use Rattle.rank_runner.specs.Seats.{TaskList}
use Rattle.rank_runner.specs.Stacks.{HasRoom, posts_in}
use Rattle.rank_runner.specs.Tasks.{ops_of, AllTasks}

module _ {Op : Type 0} (t : StepOf Op) (steps : List (ℕ × Op)) where
  -- the tasks of rank r, of the steps from a place on
  pub record IsTaskList (place r : ℕ) (ts : TaskList) : Type 0 where
    pub ops : ops_of steps (reverse ts.items) ≡ own r (drop place steps)
    pub tasks : AllTasks t steps (reverse ts.items)

  -- of so many ranks
  pub record AreTasks (place ranks : ℕ) (all : List TaskList) : Type 0 where
    pub count : length all ≡ ranks
    pub each : (r : ℕ) (ts : TaskList) → slice_get all r ≡ Some ts → IsTaskList place r ts

pub record IsOutfit {N Op : Type 0} (t : StepOf Op) (g : NodeOf N Op) (steps : List (ℕ × Op)) (nodes : List N) (o : Outfit N Op) : Type 0 where
  pub tasks : AreTasks t steps 0 (length nodes) o.tasks.items
  pub desks_count : length o.desks.items ≡ length nodes
  pub desks : AreNewDesks (letters t g steps nodes) (occupancy_caps (kinds_of t steps)) o.desks.items
  pub workers_count : length o.workers.items ≡ length nodes
  pub empty : All (λ w. posts_in w ≡ []) o.workers.items
  pub room : All (HasRoom (length nodes)) o.workers.items
  pub nodes_empty : o.nodes.items ≡ []
  pub nodes_room : length nodes ≤ vec_capacity o.nodes
  pub desks_empty : o.end_desks.items ≡ []
  pub desks_room : length nodes ≤ vec_capacity o.end_desks
