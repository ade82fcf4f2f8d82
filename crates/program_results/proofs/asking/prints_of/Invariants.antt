use Rattle.std.proofs.Common.{◌≡◌, take}
use Rattle.program_results.specs.EndsView.{program_prints}
use Rattle.program_results.proofs.asking.prints_of.Given as goal

-- what the lines before this one print
abbrev pub invariant-loop-numbered : goal.invariant-loop-numbered
invariant-loop-numbered l = l.prints.items ≡ program_prints (take l.numbered-index l.lines)
