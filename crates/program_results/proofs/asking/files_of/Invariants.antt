use Rattle.std.proofs.Common.{◌≡◌, ◌*◌, ◌≤◌, length, take}
use Rattle.program_results.specs.EndsView.{program_files}
use Rattle.program_results.proofs.asking.files_of.Given as goal

-- the files of the lines before this one
abbrev pub invariant-loop-numbered : goal.invariant-loop-numbered
invariant-loop-numbered l =
    record {
      files_are : l.files.items ≡ program_files l.places (take l.numbered-index l.lines);
      few : length l.files.items ≤ 64 * l.numbered-index;
    }
