use Rattle.std.proofs.Common.{refl, sym, subst, length}
use Rattle.proc_grid.specs.Grid.{Grid}
use Rattle.scope_ops.specs.Refusals.{send_fault}
use Rattle.program_meaning.specs.Exchanges.{exchanged, shape_in, send_exchange}
use Rattle.line_plans.specs.Standing.{state_of, IsExchanged}
use Rattle.line_plans.proofs.Settling.{grid_is}
use Rattle.line_plans.proofs.points.plan_send.Goals as goal

pub returns-clause-done : goal.returns-clause-done
unfolding send_exchange
returns-clause-done c = λ state is.
    subst (λ (g : Grid). IsExchanged c.settled.result c.args.declared.now c.args.plan.now c.call_send-called.new.plan state (exchanged (state_of c.args.declared.now c.args.plan.now state) (send_exchange (state_of c.args.declared.now c.args.plan.now state) g c.args.me (shape_in c.args.tri) c.args.part.now c.args.dest)))
    (sym (grid_is c.args.declared.now c.args.plan.now state c.args.grid c.grid-ctx.result.now c.grid-ctx.ensures.is))
    (c.settled.ensures c.args.plan.now state (send_exchange (state_of c.args.declared.now c.args.plan.now state) c.grid-ctx.result.now c.args.me (shape_in c.args.tri) c.args.part.now c.args.dest)
    (send_fault (length c.args.plan.now.steps) c.args.declared.now.shapes c.grid-ctx.result.now c.args.me c.args.part.now c.args.dest)
    is refl refl c.call_send-called.ensures.fault c.call_send-called.ensures.ok)
