-- The desks after a whole run.
use Rattle.std.specs.Prelude.{◌≡◌, ℕ, Some, List, length, slice_get}
use Rattle.machine.specs.Orders.{messages_of, receives_of}
use Rattle.msg_core.specs.declared.node.Node.{Ghosts as NodeOf}
use Rattle.msg_core.specs.declared.node.Step.{Ghosts as StepOf}
use Rattle.msg_core.specs.InOrder.{letters}
use Rattle.msg_core.specs.Kinds.{kinds_of}
use Rattle.mail_room.specs.Desks.{DeskView, IsDesk}
use Rattle.rank_runner.specs.Capacity.{occupancy_caps}

-- one for each rank, by rank: for the plan's own messages, of which every one of a pair is put, and as many taken as the plan receives
pub record AreEndDesks {N Op : Type 0} (t : StepOf Op) (g : NodeOf N Op) (steps : List (ℕ × Op)) (nodes : List N) (desks : List DeskView) : Type 0 where
  pub count : length desks ≡ length nodes
  pub each : (r : ℕ) (d : DeskView) → slice_get desks r ≡ Some d
      → IsDesk (letters t g steps nodes) (occupancy_caps (kinds_of t steps)) r (λ to. messages_of (kinds_of t steps) r to) (λ from. receives_of (kinds_of t steps) from r) d
