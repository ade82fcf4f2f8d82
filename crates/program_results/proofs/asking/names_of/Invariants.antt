use Rattle.std.proofs.Common.{◌≡◌, take}
use Rattle.program_results.specs.Results.{array_names}
use Rattle.program_results.proofs.asking.names_of.Given as goal

-- the names of the lines before this one
abbrev pub invariant-loop-numbered : goal.invariant-loop-numbered
invariant-loop-numbered l = l.names.items ≡ array_names (take l.numbered-index l.lines)
