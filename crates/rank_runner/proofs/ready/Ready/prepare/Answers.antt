use Rattle.std.proofs.Common.{List, subst}
use Rattle.msg_core.proofs.Staging.{makes_stage}
use Rattle.rank_runner.specs.Outfits.{IsOutfit}
use Rattle.rank_runner.proofs.ready.Ready.prepare.Goals as goal

pub invariant_of-result : goal.invariant_of-result
invariant_of-result g c = (
  makes_stage g.N.Op.Step g.N.Node
      (record { message_length = g.met.N.Node.message_length; after_absorb = g.met.N.Node.can_after_absorb; after_act = g.met.N.Node.can_after_act })
      c.args.plan.ranks c.args.plan.steps c.args.nodes.items c.requires.can c.facts.ensures.order c.facts.ensures.among c.facts.ensures.most c.requires.ranks c.facts.ensures.few,
  subst (λ (l : List _). IsOutfit g.N.Op.Step g.N.Node c.args.plan.steps l c.in-Ok.outfit) c.deref.ensures.value c.in-Ok.ensures,
  c.requires.ranks,
)
