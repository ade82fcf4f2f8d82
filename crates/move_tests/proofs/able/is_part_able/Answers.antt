use Rattle.mr2d.proofs.ArgLaws.{rest_passes}
use Rattle.move_tests.proofs.able.is_part_able.Goals as goal

pub have_shapes-requires-clause-passes : goal.have_shapes-requires-clause-passes
have_shapes-requires-clause-passes c = rest_passes c.args.contexts.now c.args.letters.0 c.args.letters.1 c.args.args.now c.in-Ok.ensures.passes
