use Rattle.std.proofs.Common.{◌∙◌, arith}
use Rattle.rank_runner.specs.Seats.{seat_fates}
use Rattle.rank_runner.specs.Stands.{fate, outcome}
use Rattle.rank_runner.proofs.Stacking.{same_stacks}
use Rattle.rank_runner.proofs.Whole.{length_fates}
use Rattle.rank_runner.proofs.ready.run_dealt.Goals as goal

pub collect-requires-clause-dealt : goal.collect-requires-clause-dealt
collect-requires-clause-dealt g c = (
  seat_fates g.N.Op.Step g.N.Node c.args.steps.now c.args.nodes.now.items c.args.tasks.now.items c.args.desks.now.items,
  (let l = length_fates g.N.Op.Step g.N.Node c.args.steps.now c.args.nodes.now.items c.args.tasks.now.items c.args.desks.now.items c.requires.tasks c.requires.desks in let n = c.len-total.ensures in omega (arith, l, n)),
  same_stacks outcome (fate g.N.Op.Step g.N.Node c.args.steps.now) c.run_all.new.workers c.deal.new.workers c.run_all.ensures ∙ c.deal.ensures.stacks,
)

pub returns-clause-nodes : goal.returns-clause-nodes
returns-clause-nodes g c =
    c.collect.ensures.nodes (seat_fates g.N.Op.Step g.N.Node c.args.steps.now c.args.nodes.now.items c.args.tasks.now.items c.args.desks.now.items)
    (let l = length_fates g.N.Op.Step g.N.Node c.args.steps.now c.args.nodes.now.items c.args.tasks.now.items c.args.desks.now.items c.requires.tasks c.requires.desks in let n = c.len-total.ensures in omega (arith, l, n))
    (same_stacks outcome (fate g.N.Op.Step g.N.Node c.args.steps.now) c.run_all.new.workers c.deal.new.workers c.run_all.ensures ∙ c.deal.ensures.stacks)

pub returns-clause-desks : goal.returns-clause-desks
returns-clause-desks g c =
    c.collect.ensures.desks (seat_fates g.N.Op.Step g.N.Node c.args.steps.now c.args.nodes.now.items c.args.tasks.now.items c.args.desks.now.items)
    (let l = length_fates g.N.Op.Step g.N.Node c.args.steps.now c.args.nodes.now.items c.args.tasks.now.items c.args.desks.now.items c.requires.tasks c.requires.desks in let n = c.len-total.ensures in omega (arith, l, n))
    (same_stacks outcome (fate g.N.Op.Step g.N.Node c.args.steps.now) c.run_all.new.workers c.deal.new.workers c.run_all.ensures ∙ c.deal.ensures.stacks)
