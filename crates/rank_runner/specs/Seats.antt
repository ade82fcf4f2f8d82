-- What each rank has before its run: its memory, its own operations, and its desk.
-- (Bookkeeping inside this crate: no clause of a public call cites it.)
use Rattle.std.specs.Prelude.{◌≡◌, ◌≤◌, ℕ, Some, List, [], ◌∷◌, length, slice_get, reverse}
use Rattle.std.specs.declared.vec.Vec.{Vec}
use Rattle.std.specs.declared.alloc.Global.{Global}
use Rattle.msg_core.specs.declared.node.Node.{Ghosts as NodeOf}
use Rattle.msg_core.specs.declared.node.Step.{Ghosts as StepOf}
use Rattle.mail_room.specs.Desks.{DeskView}
use Rattle.rank_runner.specs.declared.post.Task.{Task}
use Rattle.rank_runner.specs.Posts.{IsSound, end_node, end_desk}
use Rattle.rank_runner.specs.Tasks.{ops_of, AllTasks}

abbrev pub TaskList : Type 0
TaskList = Vec Task Global

abbrev pub first_of : {N : Type 0} → N × DeskView → N
first_of x = x.0

abbrev pub second_of : {N : Type 0} → N × DeskView → DeskView
second_of x = x.1

module _ {N Op : Type 0} (t : StepOf Op) (g : NodeOf N Op) (steps : List (ℕ × Op)) where
  abbrev pub seat_ops : TaskList → List Op
  seat_ops ts = ops_of steps (reverse ts.items)

  -- the memory and the desk once all its operations are done
  abbrev pub seat_fate : N → TaskList → DeskView → N × DeskView
  seat_fate n ts d = (end_node t g n (seat_ops ts) d, end_desk t g (seat_ops ts) d)

  -- by rank
  abbrev pub seat_fates : List N → List TaskList → List DeskView → List (N × DeskView)
  seat_fates (n ∷ ns) (ts ∷ tss) (d ∷ ds) = seat_fate n ts d ∷ seat_fates ns tss ds
  seat_fates (n ∷ ns) (ts ∷ tss) [] = []
  seat_fates (n ∷ ns) [] ds = []
  seat_fates [] tss ds = []

  -- a rank's operations find what they need, and have their buffers
  pub record CanStart (n : N) (ts : TaskList) (d : DeskView) : Type 0 where
    pub sound : IsSound t g n (seat_ops ts) d
    pub tasks : AllTasks t steps (reverse ts.items)
    pub count : length (reverse ts.items) ≤ 1048576

  -- and so of each rank
  abbrev pub CanSit : List N → List TaskList → List DeskView → Type 0
  CanSit ns tss ds = (r : ℕ) (n : N) (ts : TaskList) (d : DeskView) → slice_get ns r ≡ Some n → slice_get tss r ≡ Some ts → slice_get ds r ≡ Some d → CanStart n ts d
