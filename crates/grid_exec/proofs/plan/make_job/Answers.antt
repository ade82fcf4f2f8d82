use Rattle.std.proofs.Common.{◌≡◌, List, map, sym, ap, subst, ◌∙◌, Option}
use Rattle.descriptor.specs.declared.spread.Spread.{Spread}
use Rattle.msg_core.specs.Plans.{AllCan}
use Rattle.msg_core.specs.Runs.{EveryRunIsInOrder}
use Rattle.pack_words.specs.RankOps.{RankState}
use Rattle.pack_words.specs.GridState.{rank_steps, rank_nodes, arrays_held}
use Rattle.program_results.specs.EndsView.{ends_of}
use Rattle.grid_exec.proofs.EndLaws.{can_all, can_run, fits_in, job_of}
use Rattle.grid_exec.proofs.plan.make_job.Goals as goal

pub runs_are_in_order-requires : goal.runs_are_in_order-requires
runs_are_in_order-requires c = record {
  can = subst (λ (ns : List RankState). AllCan rank_nodes ns c.args.planned.plan.steps) (sym c.deref-2.ensures.value)
      (can_all c.args.planned.held c.args.planned.plan c.in_ok-nodes.nodes.items c.requires.ends.0 c.requires.ends.1 (c.in_ok-nodes.ensures.arrays ∙ c.into_ranks.ensures) c.in_ok-nodes.ensures.len c.in_ok-nodes.ensures.room);
}

pub new-requires-2 : goal.new-requires-2
new-requires-2 c =
    let same = c.in_ok-nodes.ensures.arrays ∙ c.into_ranks.ensures in
    let ends = c.in_ok-ends.ensures ∙ ap (λ (xs : List (Option Spread)). ends_of c.args.planned.held.declared.contexts xs c.args.lines.now) c.deref.ensures.value in
    record {
      can = can_run c.args.planned.held c.args.planned.plan c.in_ok-nodes.nodes.items c.requires.ends.0 c.requires.ends.1 same c.in_ok-nodes.ensures.len c.in_ok-nodes.ensures.room;
      fits = fits_in c.args.planned.held c.args.planned.plan c.in_ok-nodes.nodes.items c.requires.ends.0 c.requires.ends.1 same c.in_ok-nodes.ensures.len c.in_ok-nodes.ensures.room c.args.lines.now c.in_ok-ends.ends ends c.requires.asks;
    }

pub returns-clause-done : goal.returns-clause-done
returns-clause-done c = λ s end.
    let same = c.in_ok-nodes.ensures.arrays ∙ c.into_ranks.ensures in
    let ends = c.in_ok-ends.ensures ∙ ap (λ (xs : List (Option Spread)). ends_of c.args.planned.held.declared.contexts xs c.args.lines.now) c.deref.ensures.value in
    let runs = subst (λ (ns : List RankState). EveryRunIsInOrder rank_steps rank_nodes c.args.planned.plan.steps ns) c.deref-2.ensures.value c.runs_are_in_order.ensures.every_run in
    job_of c.args.planned.held c.args.planned.plan c.in_ok-nodes.nodes.items s end same c.in_ok-nodes.ensures.len c.in_ok-nodes.ensures.room c.new-2.result c.args.lines.now c.new-2.ensures.plan c.new-2.ensures.nodes (c.new-2.ensures.ends ∙ ends) runs
