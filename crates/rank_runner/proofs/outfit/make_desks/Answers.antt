use Rattle.std.proofs.Common.{List, subst, sym, ap, ◌∙◌, slice_get}
use Rattle.msg_core.specs.InOrder.{letters}
use Rattle.msg_core.specs.Kinds.{kinds_of}
use Rattle.mail_room.specs.Desks.{DeskView, Capacities, AreNewDesks, capacities}
use Rattle.rank_runner.specs.Capacity.{occupancy_caps}
use Rattle.rank_runner.proofs.Capacities.{occupancy_rows, said_all}
use Rattle.rank_runner.proofs.outfit.make_desks.Goals as goal

pub named_room-requires-clause-rows : goal.named_room-requires-clause-rows
named_room-requires-clause-rows g c κs within = λ k row e.
    occupancy_rows (kinds_of g.N.Op.Step c.args.plan.now.steps) c.args.plan.now.ranks k row (sym (ap (λ l. slice_get l k) (c.deref.ensures.value ∙ c.in_ok-rows.ensures)) ∙ e)

pub returns-clause-desks : goal.returns-clause-desks
returns-clause-desks g c =
    let V = letters g.N.Op.Step g.N.Node c.args.plan.now.steps c.args.nodes.now in
    let said = ap (λ l. capacities l) (c.deref.ensures.value ∙ c.in_ok-rows.ensures) ∙ said_all g.N.Op.Step c.args.plan.now.ranks c.args.plan.now.steps c.facts.ensures.among in
    subst (λ (l : List DeskView). AreNewDesks V (occupancy_caps (kinds_of g.N.Op.Step c.args.plan.now.steps)) l) (sym c.in_ok-desks.ensures)
    (subst (λ (x : Capacities). AreNewDesks V x c.in_ok-room.room) said c.in_ok-room.ensures.desks)
