-- Whole shapes have the count of their runs.
use Rattle.std.proofs.Common.{◌≡◌, rules, sym, ◌∙◌, arith}
use Rattle.pack_words.specs.declared.shape.Shape.TheVariants.{Ge}
use Rattle.pack_words.proofs.Wholes.{whole_product}
use Rattle.pack_words.proofs.products.count_product.Goals as goal

pub count_whole_product-requires-clause-most : goal.count_whole_product-requires-clause-most
count_whole_product-requires-clause-most c =
    let by : c.args.by.now.shape ≡ Ge = search rules in
    let cut : c.args.cut.now.shape ≡ Ge = search rules in
    let same = whole_product c.args.by.now c.args.cut.now c.args.rows.now c.args.cols.now by cut in
    let most = c.requires.most in
    omega arith

pub returns-then-eq-2 : goal.returns-then-eq-2
returns-then-eq-2 c =
    let by : c.args.by.now.shape ≡ Ge = search rules in
    let cut : c.args.cut.now.shape ≡ Ge = search rules in
    c.count_whole_product.ensures ∙ sym (whole_product c.args.by.now c.args.cut.now c.args.rows.now c.args.cols.now by cut)
