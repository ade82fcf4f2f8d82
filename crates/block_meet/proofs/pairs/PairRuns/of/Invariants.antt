use Rattle.std.proofs.Common.{◌≡◌, List, take, filter}
use Rattle.block_meet.specs.declared.axis.Run.{Run}
use Rattle.block_meet.specs.Runs.{AreRuns}
use Rattle.block_meet.specs.Pairs.{lies_on}
use Rattle.block_meet.proofs.pairs.PairRuns.of.Given as goal

abbrev pub invariant-loop-k : goal.invariant-loop-k
invariant-loop-k l = (rs : List Run) → AreRuns l.self.n l.self.a l.self.b rs → l.runs.items ≡ take l.k (filter (lies_on l.p l.q) rs)
