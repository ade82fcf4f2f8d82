use Rattle.std.proofs.Common.{◌≡◌, length, take}
use Rattle.pack_words.specs.Packing.{spots}
use Rattle.pack_words.specs.Products.{touched_product}
use Rattle.pack_words.proofs.products.count_rectangles.Given as goal

abbrev pub invariant-loop-col : goal.invariant-loop-col
invariant-loop-col l = l.count ≡ length (spots l.cut (touched_product l.by l.rows (take l.col-index l.cols)))
