use Rattle.std.proofs.Common.{◌∙◌, ◌%◌, ap, arith}
use Rattle.rank_runner.specs.Stands.{fate}
use Rattle.rank_runner.specs.Stacks.{stacks, push_at}
use Rattle.rank_runner.proofs.Dealing.{dealing_start, dealing_ready, dealing_step}
use Rattle.rank_runner.proofs.deal.deal.Goals as goal

pub loop-nodes-init : goal.loop-nodes-init
loop-nodes-init g c = dealing_start g.N.Op.Step g.N.Node c.args.steps.now c.args.count c.args.nodes.now.items c.args.tasks.now.items c.args.desks.now.items c.args.workers.now c.requires.count.1 c.requires.tasks c.requires.desks c.requires.empty c.requires.room

pub seat-requires-clause-ready : goal.seat-requires-clause-ready
seat-requires-clause-ready g c =
    dealing_ready g.N.Op.Step g.N.Node c.args.steps.now c.args.count c.args.nodes.now.items c.args.tasks.now.items c.args.desks.now.items c.loop-nodes.nodes.items c.last_post-post.new.nodes.items c.loop-nodes.tasks.items c.last_post-post.new.tasks.items
    c.loop-nodes.desks.items c.last_post-post.new.desks.items c.loop-nodes.workers c.last_post-post.result c.loop-nodes.invariant c.requires.seats c.last_post-post.ensures.nodes c.last_post-post.ensures.tasks c.last_post-post.ensures.desks
    c.last_post-post.ensures.fresh.0 c.last_post-post.ensures.fresh.1

pub loop-nodes-preserved : goal.loop-nodes-preserved
loop-nodes-preserved g c =
    dealing_step g.N.Op.Step g.N.Node c.args.steps.now c.args.count c.args.nodes.now.items c.args.tasks.now.items c.args.desks.now.items c.loop-nodes.nodes.items c.last_post-post.new.nodes.items c.loop-nodes.tasks.items c.last_post-post.new.tasks.items
    c.loop-nodes.desks.items c.last_post-post.new.desks.items c.loop-nodes.workers c.seat.new.workers c.last_post-post.result c.loop-nodes.invariant c.requires.seats c.last_post-post.ensures.nodes c.last_post-post.ensures.tasks c.last_post-post.ensures.desks
    c.last_post-post.ensures.fresh.0 c.last_post-post.ensures.fresh.1 c.seat.ensures.ready c.seat.ensures.room c.seat.ensures.len
    (c.seat.ensures.stacks ∙ ap (λ k. push_at (stacks (fate g.N.Op.Step g.N.Node c.args.steps.now) c.loop-nodes.workers) (k % c.args.count) (fate g.N.Op.Step g.N.Node c.args.steps.now c.last_post-post.result)) (let l = c.len.ensures in omega (arith, l)))
