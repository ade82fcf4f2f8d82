-- The move was appended or refused.
use Rattle.mr2d.specs.Calls.{shape_by}
use Rattle.move_tests.proofs.PlanLaws.{after_move}
use Rattle.move_tests.proofs.able.part_moved.Goals as goal

pub returns : goal.returns
returns c = record { plan = after_move c.args.contexts.now c.args.shapes.now (shape_by c.args.letters.0 c.args.letters.1) c.args.args.now c.args.plan.now c.pitrmr2d.new.plan c.pitrmr2d.result c.pitrmr2d.ensures.done c.pitrmr2d.ensures.waits c.pitrmr2d.ensures.refused c.pitrmr2d.ensures.ranks c.requires.plan }
