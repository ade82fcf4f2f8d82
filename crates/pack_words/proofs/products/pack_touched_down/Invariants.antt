use Rattle.std.proofs.Common.{◌≡◌, ◌+◌, ◌++◌, length, take}
use Rattle.pack_words.specs.Packing.{spots, words_at}
use Rattle.pack_words.proofs.Touching.{touched_before}
use Rattle.pack_words.proofs.products.pack_touched_down.Given as goal

abbrev pub invariant-loop-row : goal.invariant-loop-row
invariant-loop-row l =
    let done = spots l.cut (touched_before l.by l.rows l.col l.row-index) in
    record {
      end : l.at ≡ l.start + length done;
      words : take l.at l.out ≡ take l.start l.fn.out ++ words_at l.array done;
    }
