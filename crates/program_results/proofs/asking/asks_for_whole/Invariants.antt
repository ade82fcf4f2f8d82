use Rattle.std.proofs.Common.{◌≡◌, drop}
use Rattle.std.specs.List.{find}
use Rattle.program_results.specs.Asked.{whole_at}
use Rattle.program_results.proofs.asking.asks_for_whole.Given as goal

abbrev pub invariant-loop-k : goal.invariant-loop-k
invariant-loop-k l = find (whole_at l.array) l.lines ≡ find (whole_at l.array) (drop l.k l.lines)
