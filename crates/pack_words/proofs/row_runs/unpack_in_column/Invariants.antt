use Rattle.std.proofs.Common.{◌≡◌, ◌+◌, length, take, drop}
use Rattle.std.specs.List.{AllByRecursion}
use Rattle.pack_words.specs.LocalCells.{IsLocalCells}
use Rattle.pack_words.specs.Packing.{with_words}
use Rattle.pack_words.specs.RowRuns.{IsRunOf, run_spots}
use Rattle.pack_words.proofs.row_runs.unpack_in_column.Given as goal

abbrev pub invariant-loop-row : goal.invariant-loop-row
invariant-loop-row l =
    let done = run_spots (take l.row-index l.rows) l.j in
    record {
      end : l.at ≡ l.start + length done;
      array : l.array ≡ with_words l.fn.array done (take (length done) (drop l.start l.words));
      limits : IsLocalCells l.array;
      held : AllByRecursion (IsRunOf l.array l.j) l.rows;
    }
