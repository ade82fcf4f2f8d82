use Rattle.std.proofs.Common.{◌≡◌, ◌+◌, ◌++◌, length, take}
use Rattle.pack_words.specs.Packing.{words_at}
use Rattle.pack_words.specs.RowRuns.{run_spots}
use Rattle.pack_words.proofs.row_runs.pack_in_column.Given as goal

abbrev pub invariant-loop-row : goal.invariant-loop-row
invariant-loop-row l =
    let done = run_spots (take l.row-index l.rows) l.j in
    record {
      end : l.at ≡ l.start + length done;
      words : take l.at l.out ≡ take l.start l.fn.out ++ words_at l.array done;
    }
