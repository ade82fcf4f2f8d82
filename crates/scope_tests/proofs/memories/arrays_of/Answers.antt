-- One array more.
use Rattle.std.proofs.Common.{◌∙◌, ap}
use Rattle.pack_words.specs.GridShapes.{whole_measure}
use Rattle.pack_words.proofs.Measures.{measure_made, one_array}
use Rattle.scope_tests.proofs.memories.arrays_of.Goals as goal

pub loop-array-preserved : goal.loop-array-preserved
loop-array-preserved c =
    one_array c.args.shapes.now c.args.rank c.loop-array.array c.loop-array.arrays.items _ c.in_ok-made.made c.loop-array.invariant c.in_ok-push.ensures.items
    (measure_made c.in_ok-made.made c.of.result c.in_ok-made.ensures.lead c.in_ok-made.ensures.columns c.in_ok-made.ensures.array ∙ ap whole_measure c.of.ensures.size)
