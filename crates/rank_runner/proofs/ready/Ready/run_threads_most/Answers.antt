use Rattle.std.proofs.Common.{◌≡◌, ◌∙◌, List, ℕ, ap, sym, subst, map}
use Rattle.mail_room.specs.Desks.{DeskView}
use Rattle.msg_core.specs.Runs.{EveryRunIsInOrder}
use Rattle.msg_core.specs.Stages.{StageView, end_nodes}
use Rattle.msg_core.proofs.EveryRun.{every_run}
use Rattle.rank_runner.specs.Ends.{AreEndDesks}
use Rattle.rank_runner.specs.Seats.{seat_fates, CanSit, first_of, second_of}
use Rattle.rank_runner.proofs.Whole.{can_sit, nodes_end, desks_end}
use Rattle.rank_runner.proofs.ready.Ready.run_threads_most.Goals as goal

pub run_outfit-requires-clause-seats : goal.run_outfit-requires-clause-seats
run_outfit-requires-clause-seats g c κs within =
    subst (λ (l : List (ℕ × _)). CanSit g.N.Op.Step g.N.Node l c.self.inside.nodes.items c.self.inside.outfit.tasks.items c.self.inside.outfit.desks.items) (sym (c.as_slice.ensures.value ∙ c.into_steps-steps.ensures))
    (can_sit g.N.Op.Step g.N.Node c.self.inside.plan.steps c.self.inside.nodes.items c.self.invariant.0 c.self.inside.outfit.tasks.items c.self.inside.outfit.desks.items c.self.invariant.1.tasks c.self.invariant.1.desks)

pub returns-clause-nodes : goal.returns-clause-nodes
returns-clause-nodes g c =
    subst (λ (v : StageView _ _). c.run_outfit.result.0.items ≡ end_nodes g.N.Op.Step g.N.Node v.steps v.nodes) c.self.view_is
    (c.run_outfit.ensures.nodes
    ∙ (ap (λ l. map first_of (seat_fates g.N.Op.Step g.N.Node l c.self.inside.nodes.items c.self.inside.outfit.tasks.items c.self.inside.outfit.desks.items)) (c.as_slice.ensures.value ∙ c.into_steps-steps.ensures)
    ∙ nodes_end g.N.Op.Step g.N.Node c.self.inside.plan.steps c.self.inside.nodes.items c.self.invariant.0 c.self.inside.outfit.tasks.items c.self.inside.outfit.desks.items c.self.invariant.1.tasks c.self.invariant.1.desks_count c.self.invariant.1.desks))

pub returns-clause-desks : goal.returns-clause-desks
returns-clause-desks g c =
    subst (λ (v : StageView _ _). AreEndDesks g.N.Op.Step g.N.Node v.steps v.nodes c.run_outfit.result.1.items) c.self.view_is
    (subst (λ (l : List DeskView). AreEndDesks g.N.Op.Step g.N.Node c.self.inside.plan.steps c.self.inside.nodes.items l)
    (sym (c.run_outfit.ensures.desks ∙ ap (λ l. map second_of (seat_fates g.N.Op.Step g.N.Node l c.self.inside.nodes.items c.self.inside.outfit.tasks.items c.self.inside.outfit.desks.items)) (c.as_slice.ensures.value ∙ c.into_steps-steps.ensures)))
    (desks_end g.N.Op.Step g.N.Node c.self.inside.plan.steps c.self.inside.nodes.items c.self.invariant.0 c.self.inside.outfit.tasks.items c.self.inside.outfit.desks.items c.self.invariant.1.tasks c.self.invariant.1.desks_count c.self.invariant.1.desks))

pub returns-clause-every_run : goal.returns-clause-every_run
returns-clause-every_run g c = subst (λ (v : StageView _ _). EveryRunIsInOrder g.N.Op.Step g.N.Node v.steps v.nodes) c.self.view_is (every_run g.N.Op.Step g.N.Node c.self.inside.plan.steps c.self.inside.nodes.items c.self.invariant.0.able)
