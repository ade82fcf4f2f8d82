use Rattle.std.proofs.Common.{◌≡◌, ◌∙◌, List, ap, length, slice_get, subst, arith}
use Rattle.mail_room.specs.Desks.{DeskView}
use Rattle.msg_core.specs.InOrder.{letters}
use Rattle.msg_core.specs.Kinds.{kinds_of}
use Rattle.msg_core.specs.Stages.{StageView}
use Rattle.rank_runner.specs.Capacity.{occupancy_caps}
use Rattle.rank_runner.proofs.Said.{capacity_said}
use Rattle.rank_runner.proofs.ready.Ready.capacity.Goals as goal

pub returns : goal.returns
returns g c =
    subst (λ (v : StageView _ _). c.capacity_at.result ≡ occupancy_caps (kinds_of g.N.Op.Step v.steps) c.args.from c.args.to) c.self.view_is
    (capacity_said g.N.Op.Step (length c.self.inside.nodes.items) c.self.inside.plan.steps (letters g.N.Op.Step g.N.Node c.self.inside.plan.steps c.self.inside.nodes.items) c.self.inside.outfit.desks.items c.args.from c.args.to c.capacity_at.result
    c.self.invariant.0.among c.self.invariant.1.desks_count c.self.invariant.1.desks
    (λ d e. c.capacity_at.ensures.some d (ap (λ l. slice_get l c.args.from) c.deref.ensures.value ∙ e))
    (λ h. c.capacity_at.ensures.none (let l = ap (λ (x : List DeskView). length x) c.deref.ensures.value in omega (arith, l, h))))
