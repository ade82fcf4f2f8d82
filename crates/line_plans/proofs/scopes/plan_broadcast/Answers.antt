use Rattle.std.proofs.Common.{refl, sym, subst, Err, length}
use Rattle.proc_grid.specs.Grid.{Grid}
use Rattle.scope_ops.specs.Scopes.{broadcast_fault}
use Rattle.program_meaning.specs.Exchanges.{exchanged, shape_in, place_of_part, broadcast_exchange}
use Rattle.line_plans.specs.Standing.{state_of, IsExchanged}
use Rattle.line_plans.proofs.Settling.{grid_is}
use Rattle.line_plans.proofs.MoveLines.{held_line}
use Rattle.line_plans.proofs.scopes.plan_broadcast.Goals as goal

pub returns-in-Err-clause-done : goal.returns-in-Err-clause-done
unfolding broadcast_exchange
returns-in-Err-clause-done c = λ state is.
    subst (λ (g : Grid). IsExchanged (Err c.in-Err.halt) c.args.declared.now c.args.plan.now c.args.plan.now state (exchanged (state_of c.args.declared.now c.args.plan.now state) (broadcast_exchange (state_of c.args.declared.now c.args.plan.now state) g c.args.scope (shape_in c.args.tri) c.args.part.now c.args.src)))
    (sym (grid_is c.args.declared.now c.args.plan.now state c.args.grid c.grid-ctx.result.now c.grid-ctx.ensures.is))
    (held_line c.args.declared.now c.args.plan.now c.args.plan.now state (broadcast_exchange (state_of c.args.declared.now c.args.plan.now state) c.grid-ctx.result.now c.args.scope (shape_in c.args.tri) c.args.part.now c.args.src) c.in-Err.halt (c.in-Err.ensures.done c.args.declared.now.shapes state is))

pub returns-clause-done : goal.returns-clause-done
unfolding broadcast_exchange
returns-clause-done c = λ state is.
    subst (λ (g : Grid). IsExchanged c.settled.result c.args.declared.now c.args.plan.now c.call_broadcast-called.new.plan state (exchanged (state_of c.args.declared.now c.args.plan.now state) (broadcast_exchange (state_of c.args.declared.now c.args.plan.now state) g c.args.scope (shape_in c.args.tri) c.args.part.now c.args.src)))
    (sym (grid_is c.args.declared.now c.args.plan.now state c.args.grid c.grid-ctx.result.now c.grid-ctx.ensures.is))
    (c.settled.ensures c.args.plan.now state (broadcast_exchange (state_of c.args.declared.now c.args.plan.now state) c.grid-ctx.result.now c.args.scope (shape_in c.args.tri) c.args.part.now c.args.src)
    (broadcast_fault (length c.args.plan.now.steps) c.args.declared.now.shapes c.grid-ctx.result.now c.args.scope c.args.part.now c.args.src (place_of_part c.args.part.now))
    is (c.in_default.ensures.done c.args.declared.now.shapes state is) refl c.call_broadcast-called.ensures.fault c.call_broadcast-called.ensures.ok)
