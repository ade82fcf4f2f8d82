use Rattle.msg_core.proofs.EveryRun.{every_run}
use Rattle.msg_core.proofs.OneRank.{is_by_itself}
use Rattle.msg_core.proofs.theorem.runs_are_in_order.Goals as goal

pub returns-clause-every_run : goal.returns-clause-every_run
returns-clause-every_run g c = every_run g.N.Op.Step g.N.Node c.args.plan.now.steps c.args.nodes.now record {
  laws = record { message_length = g.met.N.Node.message_length; after_absorb = g.met.N.Node.can_after_absorb; after_act = g.met.N.Node.can_after_act };
  all = c.requires.can;
  order = c.facts.ensures.order;
}

pub returns-clause-by_itself : goal.returns-clause-by_itself
returns-clause-by_itself g c = is_by_itself g.N.Op.Step g.N.Node c.args.plan.now.steps c.args.nodes.now record {
  laws = record { message_length = g.met.N.Node.message_length; after_absorb = g.met.N.Node.can_after_absorb; after_act = g.met.N.Node.can_after_act };
  all = c.requires.can;
  order = c.facts.ensures.order;
}
