-- The core's laws.
use Rattle.msg_core.proofs.GrowingPlans.{in_order_join, can_go_join, can_go_first, can_go_then}
use Rattle.pack_words.specs.GridState.{rank_steps, rank_nodes}
use Rattle.pack_words.proofs.grid_laws.done_in_parts.Goals as goal

pub returns : goal.returns
returns c = record { done = in_order_join rank_steps rank_nodes; can = can_go_join rank_steps rank_nodes; first = can_go_first rank_steps rank_nodes; rest = can_go_then rank_steps rank_nodes }
