use Rattle.std.proofs.Common.{◌+◌, ◌-◌}
use Rattle.block_meet.specs.Pairs.{lists_of}
use Rattle.block_meet.proofs.DealLemmas.{IsPutTo}
use Rattle.block_meet.proofs.pairs.starts_by_pair.Given as goal

abbrev pub invariant-loop-start : goal.invariant-loop-start
invariant-loop-start l = IsPutTo l.a l.b l.reach l.start (lists_of l.starts)

abbrev pub decreases-loop-start : goal.decreases-loop-start
decreases-loop-start l = l.reach + 1 - l.start
