-- Where the rectangle's runs stand.
use Rattle.std.proofs.Common.{sym, ◌∙◌, rules}
use Rattle.pack_words.proofs.Crossing.{in_runs, product_at}
use Rattle.pack_words.proofs.products.nth_crossing.Goals as goal

pub nonzero_rem-k : goal.nonzero_rem-k
nonzero_rem-k c =
    let runs = in_runs c.args.rows.now c.args.cols.now c.args.k c.requires in
    let some = runs.0 in
    let row = runs.1 in
    let column = runs.2 in
    search rules

pub offset_bounds-rows-k : goal.offset_bounds-rows-k
offset_bounds-rows-k c =
    let runs = in_runs c.args.rows.now c.args.cols.now c.args.k c.requires in
    let some = runs.0 in
    let row = runs.1 in
    let column = runs.2 in
    search rules

pub bounds-rows-k : goal.bounds-rows-k
bounds-rows-k c =
    let runs = in_runs c.args.rows.now c.args.cols.now c.args.k c.requires in
    let some = runs.0 in
    let row = runs.1 in
    let column = runs.2 in
    search rules

pub nonzero_div-k : goal.nonzero_div-k
nonzero_div-k c =
    let runs = in_runs c.args.rows.now c.args.cols.now c.args.k c.requires in
    let some = runs.0 in
    let row = runs.1 in
    let column = runs.2 in
    search rules

pub offset_bounds-cols-k : goal.offset_bounds-cols-k
offset_bounds-cols-k c =
    let runs = in_runs c.args.rows.now c.args.cols.now c.args.k c.requires in
    let some = runs.0 in
    let row = runs.1 in
    let column = runs.2 in
    search rules

pub bounds-cols-k : goal.bounds-cols-k
bounds-cols-k c =
    let runs = in_runs c.args.rows.now c.args.cols.now c.args.k c.requires in
    let some = runs.0 in
    let row = runs.1 in
    let column = runs.2 in
    search rules

pub returns : goal.returns
returns c = c.crossing_of.ensures ∙ sym (product_at c.args.rows.now c.args.cols.now c.args.k c.requires)
