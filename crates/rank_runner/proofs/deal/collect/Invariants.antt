use Rattle.std.proofs.Common.{◌≡◌, ◌≤◌, List, length, vec_len}
use Rattle.std.specs.Prelude.{vec_capacity}
use Rattle.mail_room.specs.Desks.{DeskView}
use Rattle.rank_runner.specs.Dealing.{IsCollecting}
use Rattle.rank_runner.specs.Stacks.{stacks, dealt}
use Rattle.rank_runner.specs.Stands.{outcome}
use Rattle.rank_runner.proofs.deal.collect.Given as goal

abbrev pub invariant-loop-rank : goal.invariant-loop-rank
invariant-loop-rank g l = record {
  collecting : (all : List (_ × DeskView)) → length all ≡ l.total → stacks outcome l.fn.workers ≡ dealt l.count 0 all → IsCollecting l.count l.rank all l.workers l.nodes.items l.desks.items;
  nodes_len : vec_len l.nodes ≡ l.rank;
  desks_len : vec_len l.desks ≡ l.rank;
  nodes_room : l.total ≤ vec_capacity l.nodes;
  desks_room : l.total ≤ vec_capacity l.desks;
}
