use Rattle.std.proofs.Common.{arith}
use Rattle.block_meet.proofs.PairLemmas.{pairs_new}
use Rattle.block_meet.proofs.pairs.PairRuns.new.Goals as goal

pub invariant_of-result : goal.invariant_of-result
invariant_of-result c = pairs_new c.args.n c.args.a c.args.b _ _ _ c.requires.first c.requires.second c.ilcm-turn.ensures (omega arith) (λ h. omega arith) c.in_ok-starts.ensures
