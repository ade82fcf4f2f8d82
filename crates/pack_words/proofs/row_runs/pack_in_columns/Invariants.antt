use Rattle.std.proofs.Common.{◌≡◌, ◌+◌, ◌++◌, length, take}
use Rattle.pack_words.specs.Packing.{spots, words_at}
use Rattle.pack_words.specs.Products.{down}
use Rattle.pack_words.proofs.row_runs.pack_in_columns.Given as goal

abbrev pub invariant-loop-row : goal.invariant-loop-row
invariant-loop-row l =
    let done = spots l.cut (take l.row-index (down l.rows l.col)) in
    record {
      end : l.at ≡ l.start + length done;
      words : take l.at l.out ≡ take l.start l.fn.out ++ words_at l.array done;
    }
