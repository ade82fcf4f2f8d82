-- How far the posts are dealt, and how far they are collected.
-- (Bookkeeping inside this crate: no clause of a public call cites it.)
use Rattle.std.specs.Prelude.{◌≡◌, ℕ, All, List, ◌++◌, length, map, take, drop}
use Rattle.msg_core.specs.declared.node.Node.{Ghosts as NodeOf}
use Rattle.msg_core.specs.declared.node.Step.{Ghosts as StepOf}
use Rattle.mail_room.specs.Desks.{DeskView}
use Rattle.rank_runner.specs.Seats.{TaskList, seat_fates, first_of, second_of}
use Rattle.rank_runner.specs.Stacks.{Padded, IsReadyWorker, HasRoom, stacks, dealt}
use Rattle.rank_runner.specs.Stands.{fate, outcome}

-- what is left of the lists, and what lies on the stacks
pub record IsDealing {N Op : Type 0} (t : StepOf Op) (g : NodeOf N Op) (steps : List (ℕ × Op)) (count : ℕ) (ns0 : List N) (tss0 : List TaskList) (ds0 : List DeskView) (ns : List N) (tss : List TaskList) (ds : List DeskView) (ws : List (Padded N Op)) : Type 0 where
  pub rest_ns : List N
  pub rest_tss : List TaskList
  pub rest_ds : List DeskView
  pub nodes : ns0 ≡ ns ++ rest_ns
  pub tasks : tss0 ≡ tss ++ rest_tss
  pub desks : ds0 ≡ ds ++ rest_ds
  pub same_tasks : length tss ≡ length ns
  pub same_desks : length ds ≡ length ns
  pub ready : All (IsReadyWorker t g steps) ws
  pub room : All (HasRoom (length ns)) ws
  pub long : length ws ≡ count
  pub on : stacks (fate t g steps) ws ≡ dealt count (length ns) (seat_fates t g steps rest_ns rest_tss rest_ds)

-- so many are collected
pub record IsCollecting {N Op : Type 0} (count rank : ℕ) (all : List (N × DeskView)) (ws : List (Padded N Op)) (nodes : List N) (desks : List DeskView) : Type 0 where
  pub on : stacks outcome ws ≡ dealt count rank (drop rank all)
  pub nodes_are : nodes ≡ map first_of (take rank all)
  pub desks_are : desks ≡ map second_of (take rank all)
