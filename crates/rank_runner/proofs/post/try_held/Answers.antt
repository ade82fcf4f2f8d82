use Rattle.std.proofs.Common.{sym, refl, ◌∙◌}
use Rattle.rank_runner.proofs.Steps.{held_within, held_finds, waited_ready}
use Rattle.rank_runner.proofs.post.try_held.Goals as goal

pub op_at-requires : goal.op_at-requires
op_at-requires g c = held_within g.N.Op.Step g.N.Node c.args.steps.now c.args.post.now c.in-Some.task c.requires (sym c.take.ensures.value ∙ c.in-Some.is)

pub try_op-requires-clause-can : goal.try_op-requires-clause-can
try_op-requires-clause-can g c = (held_finds g.N.Op.Step g.N.Node c.args.steps.now c.args.post.now c.in-Some.task (c.op_at.result.0, c.op_at.result.1.now) c.requires (sym c.take.ensures.value ∙ c.in-Some.is) c.op_at.ensures).can

pub try_op-requires-clause-agrees : goal.try_op-requires-clause-agrees
try_op-requires-clause-agrees g c = (held_finds g.N.Op.Step g.N.Node c.args.steps.now c.args.post.now c.in-Some.task (c.op_at.result.0, c.op_at.result.1.now) c.requires (sym c.take.ensures.value ∙ c.in-Some.is) c.op_at.ensures).agrees

pub try_op-requires-clause-packed : goal.try_op-requires-clause-packed
try_op-requires-clause-packed g c = (held_finds g.N.Op.Step g.N.Node c.args.steps.now c.args.post.now c.in-Some.task (c.op_at.result.0, c.op_at.result.1.now) c.requires (sym c.take.ensures.value ∙ c.in-Some.is) c.op_at.ensures).packed

pub returns-in-Some-try_op-clause-ready : goal.returns-in-Some-try_op-clause-ready
returns-in-Some-try_op-clause-ready g c =
    waited_ready g.N.Op.Step g.N.Node c.args.steps.now c.args.post.now _ c.in-Some.task (record { place = c.in-Some.task.place; buffer = c.in-Some-try_op.buffer }) (c.op_at.result.0, c.op_at.result.1.now) c.requires (sym c.take.ensures.value ∙ c.in-Some.is) c.op_at.ensures
    refl refl refl c.in-Some-try_op.ensures.back.1 c.in-Some-try_op.ensures.back.2 refl c.in-Some-try_op.ensures.back.0
