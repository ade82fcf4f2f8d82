use Rattle.mr2d.proofs.ArgLaws.{ready_from}
use Rattle.move_tests.proofs.able.have_shapes.Goals as goal

pub has_shape-requires-clause-good : goal.has_shape-requires-clause-good
has_shape-requires-clause-good c = (ready_from c.args.contexts.now c.args.args.now c.requires.passes.0 c.in-Some.source.now c.in-Some-grid_of.target.now c.requires.passes.1 c.in-Some.ensures.there c.in-Some-grid_of.ensures.there c.in-Some.ensures.grid c.in-Some-grid_of.ensures.grid).good_a

pub has_shape-requires-then-has_shape-clause-good : goal.has_shape-requires-then-has_shape-clause-good
has_shape-requires-then-has_shape-clause-good c = (ready_from c.args.contexts.now c.args.args.now c.requires.passes.0 c.in-Some.source.now c.in-Some-grid_of.target.now c.requires.passes.1 c.in-Some.ensures.there c.in-Some-grid_of.ensures.there c.in-Some.ensures.grid c.in-Some-grid_of.ensures.grid).good_b
