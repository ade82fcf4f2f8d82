use Rattle.std.proofs.Common.{◌≡◌, length, take}
use Rattle.pack_words.specs.LocalCells.{IsLocalCells}
use Rattle.pack_words.specs.Packing.{AllInArray, spots, with_words}
use Rattle.pack_words.specs.Products.{touched_product}
use Rattle.pack_words.proofs.products.unpack_product.Given as goal

abbrev pub invariant-loop-col : goal.invariant-loop-col
invariant-loop-col l =
    let done = spots l.cut (touched_product l.by l.rows (take l.col-index l.cols)) in
    record {
      end : l.at ≡ length done;
      array : l.array ≡ with_words l.fn.array done (take (length done) l.words);
      limits : IsLocalCells l.array;
      held : AllInArray l.array (touched_product l.by l.rows l.cols);
    }
