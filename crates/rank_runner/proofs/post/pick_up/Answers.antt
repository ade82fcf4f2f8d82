use Rattle.std.proofs.Common.{sym, refl}
use Rattle.rank_runner.proofs.Steps.{none_held, next_within, next_can, next_buffer, picked_ready}
use Rattle.rank_runner.proofs.post.pick_up.Goals as goal

pub op_at-requires : goal.op_at-requires
op_at-requires g c = next_within g.N.Op.Step g.N.Node c.args.steps.now c.args.post.now c.pop.new.self.items c.in-Some.task c.requires (none_held c.args.post.now.held (sym c.if-is_some.ensures)) c.in-Some.ensures.items

pub begun-requires-clause-can : goal.begun-requires-clause-can
begun-requires-clause-can g c =
    next_can g.N.Op.Step g.N.Node c.args.steps.now c.args.post.now c.pop.new.self.items c.in-Some.task (c.op_at.result.0, c.op_at.result.1.now) c.requires (none_held c.args.post.now.held (sym c.if-is_some.ensures)) c.in-Some.ensures.items c.op_at.ensures

pub begun-requires-clause-buffer : goal.begun-requires-clause-buffer
begun-requires-clause-buffer g c =
    next_buffer g.N.Op.Step g.N.Node c.args.steps.now c.args.post.now c.pop.new.self.items c.in-Some.task (c.op_at.result.0, c.op_at.result.1.now) c.requires (none_held c.args.post.now.held (sym c.if-is_some.ensures)) c.in-Some.ensures.items c.op_at.ensures

pub returns-in-Some-clause-ready : goal.returns-in-Some-clause-ready
returns-in-Some-clause-ready g c =
    picked_ready g.N.Op.Step g.N.Node c.args.steps.now c.args.post.now _ c.in-Some.task c.begun.result (c.op_at.result.0, c.op_at.result.1.now) c.requires (none_held c.args.post.now.held (sym c.if-is_some.ensures)) c.in-Some.ensures.items c.op_at.ensures
    refl c.begun.ensures.place refl refl refl c.begun.ensures.packed
