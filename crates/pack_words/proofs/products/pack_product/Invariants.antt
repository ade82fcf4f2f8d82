use Rattle.std.proofs.Common.{◌≡◌, length, take}
use Rattle.pack_words.specs.Packing.{spots, words_at}
use Rattle.pack_words.specs.Products.{touched_product}
use Rattle.pack_words.proofs.products.pack_product.Given as goal

abbrev pub invariant-loop-col : goal.invariant-loop-col
invariant-loop-col l =
    let done = spots l.cut (touched_product l.by l.rows (take l.col-index l.cols)) in
    record {
      end : l.at ≡ length done;
      words : take l.at l.out ≡ words_at l.array done;
    }
