use Rattle.std.proofs.Common.{◌≡◌, false}
use Rattle.descriptor.specs.Bounds.{some_below}
use Rattle.descriptor.proofs.BoundsLemmas.{bad_at}
use Rattle.descriptor.proofs.bounds.are_leads.Given as goal

abbrev pub invariant-loop-k : goal.invariant-loop-k
invariant-loop-k l = some_below (bad_at l.llds l.rows.count l.rows.block l.rows.source l.rows.nprow l.npcol) l.k ≡ false
