use Rattle.std.proofs.Common.{◌≡◌, ◌-◌, map}
use Rattle.std.specs.List.{range_with_len}
use Rattle.route_tree.specs.Parents.{edge_of}
use Rattle.route_tree.proofs.edges.route.Given as goal

abbrev pub invariant-loop-i : goal.invariant-loop-i
invariant-loop-i l = l.edges.items ≡ map (edge_of l.top l.n l.source) (range_with_len 1 (l.i - 1))
