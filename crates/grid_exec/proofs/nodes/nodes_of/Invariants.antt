use Rattle.std.proofs.Common.{◌≡◌}
use Rattle.std.specs.Prelude.{map}
use Rattle.pack_words.specs.GridState.{arrays_held}
use Rattle.array_contents.specs.Contents.{arrays_of}
use Rattle.grid_exec.specs.Nodes.{HaveRoom}
use Rattle.grid_exec.proofs.nodes.nodes_of.Given as goal

abbrev pub invariant-loop-mine : goal.invariant-loop-mine
invariant-loop-mine l = (map arrays_held l.nodes.items ≡ arrays_of l.yielded) × HaveRoom l.plan.steps l.nodes.items
