-- The move was appended or refused.
use Rattle.pack_words.specs.declared.shape.Shape.TheVariants.{Ge}
use Rattle.move_tests.proofs.PlanLaws.{after_move}
use Rattle.move_tests.proofs.able.moved.Goals as goal

pub returns : goal.returns
returns c = record { plan = after_move c.args.contexts.now c.args.shapes.now Ge c.args.args.now c.args.plan.now c.pigemr2d.new.plan c.pigemr2d.result c.pigemr2d.ensures.done c.pigemr2d.ensures.waits c.pigemr2d.ensures.refused c.pigemr2d.ensures.ranks c.requires.plan }
