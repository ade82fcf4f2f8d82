-- What is left to copy.
use Rattle.std.proofs.Common.{length}
use Rattle.pack_words.proofs.CopyWalk.{IsLeft}
use Rattle.pack_words.proofs.copying.copy.Given as goal

abbrev pub invariant-loop-source : goal.invariant-loop-source
invariant-loop-source l = IsLeft l.cut l.from l.fn.to l.sources l.targets l.to l.before l.after

abbrev pub decreases-loop-source : goal.decreases-loop-source
decreases-loop-source l = length l.before
