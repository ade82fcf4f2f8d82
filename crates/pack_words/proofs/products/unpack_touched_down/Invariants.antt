use Rattle.std.proofs.Common.{◌≡◌, ◌+◌, length, take, drop}
use Rattle.pack_words.specs.LocalCells.{IsLocalCells}
use Rattle.pack_words.specs.Packing.{AllInArray, spots, with_words}
use Rattle.pack_words.specs.Products.{touched_down}
use Rattle.pack_words.proofs.Touching.{touched_before}
use Rattle.pack_words.proofs.products.unpack_touched_down.Given as goal

abbrev pub invariant-loop-row : goal.invariant-loop-row
invariant-loop-row l =
    let done = spots l.cut (touched_before l.by l.rows l.col l.row-index) in
    record {
      end : l.at ≡ l.start + length done;
      array : l.array ≡ with_words l.fn.array done (take (length done) (drop l.start l.words));
      limits : IsLocalCells l.array;
      held : AllInArray l.array (touched_down l.by l.rows l.col);
    }
