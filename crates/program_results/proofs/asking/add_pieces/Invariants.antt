use Rattle.std.proofs.Common.{◌≡◌, ◌+◌, ◌++◌, length, map}
use Rattle.std.specs.List.{range_with_len}
use Rattle.program_results.specs.EndsView.{piece_file_of}
use Rattle.program_results.proofs.asking.add_pieces.Given as goal

-- the files of the pieces before this one
abbrev pub invariant-loop-process : goal.invariant-loop-process
invariant-loop-process l =
    record {
      files_are : l.files.items ≡ l.fn.files.items ++ map (piece_file_of l.array l.place l.prefix) (range_with_len 0 l.process);
      count : length l.files.items ≡ length l.fn.files.items + l.process;
    }
