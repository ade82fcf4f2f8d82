-- A rectangle that the cut doesn't touch is passed.
use Rattle.std.proofs.Common.{sym, ap, ◌∙◌, arith}
use Rattle.pack_words.specs.Products.{is_touched}
use Rattle.pack_words.proofs.Walking.{from_other}
use Rattle.pack_words.proofs.walk.next_touched.Goals as goal

pub loop-k-preserved : goal.loop-k-preserved
loop-k-preserved c =
    sym (from_other c.args.by.now c.args.rows.now c.args.cols.now c.loop-k.k (omega arith) (ap (is_touched c.args.by.now) (sym c.nth_crossing.ensures) ∙ sym c.touches.ensures ∙ c.if-touches.false)) ∙ c.loop-k.invariant
