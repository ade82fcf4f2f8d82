use Rattle.std.proofs.Common.{◌≡◌, ◌+◌, length, take, drop}
use Rattle.pack_words.specs.LocalCells.{IsLocalCells}
use Rattle.pack_words.specs.Packing.{AllInArray, spots, with_words}
use Rattle.pack_words.specs.Products.{down}
use Rattle.pack_words.proofs.row_runs.unpack_in_columns.Given as goal

abbrev pub invariant-loop-row : goal.invariant-loop-row
invariant-loop-row l =
    let done = spots l.cut (take l.row-index (down l.rows l.col)) in
    record {
      end : l.at ≡ l.start + length done;
      array : l.array ≡ with_words l.fn.array done (take (length done) (drop l.start l.words));
      limits : IsLocalCells l.array;
      held : AllInArray l.array (down l.rows l.col);
    }
