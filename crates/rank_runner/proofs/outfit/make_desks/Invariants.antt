use Rattle.msg_core.specs.InOrder.{letters}
use Rattle.rank_runner.proofs.outfit.make_desks.Given as goal

abbrev pub ghosts-named_room : goal.ghosts-named_room
ghosts-named_room g a = record { letters = letters g.N.Op.Step g.N.Node a.plan.now.steps a._nodes.now }
