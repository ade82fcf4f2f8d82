use Rattle.std.proofs.Common.{◌≡◌, length, take}
use Rattle.grid_exec.specs.Nodes.{AreRooms}
use Rattle.grid_exec.proofs.rooms.rooms_of.Given as goal

abbrev pub invariant-loop-k : goal.invariant-loop-k
invariant-loop-k l = record {
  long : length l.rooms.items ≡ l.plan.ranks;
  done : AreRooms (take l.k l.plan.steps) l.rooms.items;
}
