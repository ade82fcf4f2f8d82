use Rattle.std.proofs.Common.{◌/◌, ◌%◌, ◌∷◌, [], ◌++◌, ap, ◌∙◌, refl}
use Rattle.proc_grid.specs.Refusals.{dealt_rank}
use Rattle.proc_grid.proofs.GridLemmas.{map-range_pushed}
use Rattle.proc_grid.proofs.making.dealt.Goals as goal

pub loop-place-preserved : goal.loop-place-preserved
loop-place-preserved c = map-range_pushed (λ k. dealt_rank c.args.order c.args.nprow c.args.npcol (k / c.args.npcol) (k % c.args.npcol)) c.loop-place.ranks.items _ c.loop-place.place _ (c.in_ok-push.ensures.items ∙ ap (λ x. c.loop-place.ranks.items ++ x ∷ []) c.dealt_at.ensures) c.loop-place.invariant refl
