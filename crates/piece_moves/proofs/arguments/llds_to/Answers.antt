use Rattle.std.proofs.Common.{◌≡◌, ◌^◌, ◌<◌, ℤ, pos, [], ◌∷◌, ◌++◌, ap, ◌∙◌, arith}
use mir.Val.{of_z, to_z}
use mir.Syntax.{w64}
use Rattle.piece_moves.specs.DistributionView.{distribution_view}
use Rattle.piece_moves.proofs.ListLaws.{pushed_as, llds_to_more}
use Rattle.piece_moves.proofs.arguments.llds_to.Goals as goal

pub loop-k-preserved : goal.loop-k-preserved
loop-k-preserved c =
    let small : c.lead_at.result < 2 ^ 32 = omega arith in
    let value : to_z w64 (of_z w64 c.from.result) ≡ pos c.lead_at.result = pushed_as c.from.result c.lead_at.result c.from.ensures small in
    c.in_ok-push.ensures.items ∙ ap (λ (x : ℤ). c.loop-k.llds.items ++ x ∷ []) value
    ∙ llds_to_more (distribution_view c.args.to.now) c.args.first.now.m c.args.first.now.n c.loop-k.llds.items c.loop-k.k c.lead_at.result c.loop-k.invariant c.lead_at.ensures
