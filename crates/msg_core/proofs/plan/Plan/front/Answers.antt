use Rattle.std.proofs.Common.{◌≡◌, ◌≤◌, ◌⊎◌, inl, inr, None, sym, subst, slice_get}
use Rattle.msg_core.specs.Plans.{PlanView, waiting_lens}
use Rattle.msg_core.proofs.Growing.{no_front}
use Rattle.msg_core.proofs.plan.Plan.front.Goals.{then-from-self-via-then-from-self, then-from-self-via-else-from-self+then-to-self}
use Rattle.msg_core.proofs.plan.Plan.front.Goals as goal

pub returns-then-from-self : goal.returns-then-from-self
returns-then-from-self g c =
    let past : (c.self.inside.ranks ≤ c.args.from) ⊎ (c.self.inside.ranks ≤ c.args.to) = elim c.then-from-self.branch [
      | then-from-self-via-then-from-self w ↦ inl w.if-from-self.true
      | then-from-self-via-else-from-self+then-to-self w ↦ inr w.if-to-self.true
    ] in
    subst (λ (p : PlanView _). None ≡ slice_get (waiting_lens g.Op.Step p c.args.from c.args.to) 0) c.self.view_is
    (sym (no_front g.Op.Step c.self.inside.ranks c.self.inside.steps.items c.self.invariant.0.among c.args.from c.args.to past))
