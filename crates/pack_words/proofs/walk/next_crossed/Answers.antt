-- The rectangles that the cut doesn't touch are passed.
use Rattle.std.proofs.Common.{◌∷◌, ◌+◌, sym, ap, ◌∙◌, arith}
use Rattle.pack_words.specs.Walks.{touched_from}
use Rattle.pack_words.proofs.Walking.{from_touched, from_end}
use Rattle.pack_words.proofs.walk.next_crossed.Goals as goal

pub returns-then-place-crossing_count : goal.returns-then-place-crossing_count
returns-then-place-crossing_count c =
    sym c.next_touched-place.ensures.same
    ∙ from_end c.args.by.now c.args.rows.now c.args.cols.now c.next_touched-place.result (omega arith)

pub returns : goal.returns
returns c =
    let rows = c.args.rows.now in
    let cols = c.args.cols.now in
    let by = c.args.by.now in
    let at = c.next_touched-place.result in
    sym c.next_touched-place.ensures.same
    ∙ from_touched by rows cols at (omega arith) (c.next_touched-place.ensures.touched (omega arith))
    ∙ ap (λ r. r ∷ touched_from by rows cols (at + 1)) (sym c.nth_crossing.ensures)
