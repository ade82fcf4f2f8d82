-- Where a post stands, and where it will end.
use Rattle.std.specs.Prelude.{◌+◌, ◌≤◌, ℕ, List, length, reverse}
use Rattle.msg_core.specs.declared.node.Node.{Ghosts as NodeOf}
use Rattle.msg_core.specs.declared.node.Step.{Ghosts as StepOf}
use Rattle.mail_room.specs.Desks.{DeskView}
use Rattle.rank_runner.specs.declared.post.Post.{Post}
use Rattle.rank_runner.specs.Posts.{IsSound, end_node, end_desk}
use Rattle.rank_runner.specs.Tasks.{ops_of, todo, AllTasks, IsHeld}

-- the memory and the desk
abbrev pub outcome : {N Op : Type 0} → Post N Op → N × DeskView
outcome p = (p.node, p.desk)

module _ {N Op : Type 0} (t : StepOf Op) (g : NodeOf N Op) (steps : List (ℕ × Op)) where
  -- the operations that are left
  abbrev pub left : Post N Op → List Op
  left p = ops_of steps (todo p.held p.tasks.items)

  -- they find what they need, and have their buffers
  pub record IsReady (p : Post N Op) : Type 0 where
    pub sound : IsSound t g p.node (left p) p.desk
    pub tasks : AllTasks t steps (reverse p.tasks.items)
    pub held : IsHeld t g steps p.node p.held
    pub count : p.done + length (todo p.held p.tasks.items) ≤ 1048576

  -- the memory and the desk once all of them are done
  abbrev pub fate : Post N Op → N × DeskView
  fate p = (end_node t g p.node (left p) p.desk, end_desk t g (left p) p.desk)
