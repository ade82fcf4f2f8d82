-- One more row run.
use Rattle.std.proofs.Common.{◌+◌, length, sym, ap, ◌∙◌, arith, subst}
use Rattle.pack_words.specs.declared.region.Region.{Region}
use Rattle.pack_words.specs.Packing.{IsInCut, AllInCut, spots}
use Rattle.pack_words.specs.Products.{touched}
use Rattle.pack_words.proofs.Touching.{next_length, next_room, all_touched, before_none, before_all}
use Rattle.pack_words.proofs.products.count_down.Goals as goal

pub loop-row-init : goal.loop-row-init
loop-row-init c =
    let none = ap length (before_none c.args.cut.now c.args.by.now c.args.rows.now c.args.col.now) in
    omega arith

pub count_touched-count-requires-clause-cut : goal.count_touched-count-requires-clause-cut
count_touched-count-requires-clause-cut c =
    subst (λ (r : Region). AllInCut c.args.cut.now (touched c.args.by.now r)) (sym c.crossing_of-region.ensures) (all_touched (IsInCut c.args.cut.now) c.args.by.now c.args.rows.now c.args.col.now c.loop-row.row-index c.requires.cut (omega arith))

pub count_touched-count-requires-clause-few : goal.count_touched-count-requires-clause-few
count_touched-count-requires-clause-few c =
    let size = ap (λ r. length (spots c.args.cut.now (touched c.args.by.now r))) c.crossing_of-region.ensures in
    let room = next_room c.args.cut.now c.args.by.now c.args.rows.now c.args.col.now c.loop-row.row-index (omega arith) in
    let few = c.requires.few in
    omega arith

pub overflow_add-count : goal.overflow_add-count
overflow_add-count c =
    let size = ap (λ r. length (spots c.args.cut.now (touched c.args.by.now r))) c.crossing_of-region.ensures in
    let room = next_room c.args.cut.now c.args.by.now c.args.rows.now c.args.col.now c.loop-row.row-index (omega arith) in
    let few = c.requires.few in
    omega arith

pub loop-row-preserved : goal.loop-row-preserved
loop-row-preserved c =
    let size = ap (λ r. length (spots c.args.cut.now (touched c.args.by.now r))) c.crossing_of-region.ensures in
    let more = next_length c.args.cut.now c.args.by.now c.args.rows.now c.args.col.now c.loop-row.row-index (omega arith) in
    omega arith

pub returns : goal.returns
returns c =
    c.loop-row.invariant ∙ ap (λ rs. c.args.so_far + length (spots c.args.cut.now rs)) (before_all c.args.by.now c.args.rows.now c.args.col.now c.loop-row.row-index (omega arith))
