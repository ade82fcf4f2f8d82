use Rattle.std.proofs.Common.{refl, sym, subst, Err, length}
use Rattle.proc_grid.specs.Grid.{Grid}
use Rattle.scope_ops.specs.CombineRefusals.{barrier_fault}
use Rattle.program_meaning.specs.Exchanges.{exchanged, barrier_exchange}
use Rattle.line_plans.specs.Standing.{state_of, IsExchanged}
use Rattle.line_plans.proofs.Settling.{grid_is}
use Rattle.line_plans.proofs.MoveLines.{held_line}
use Rattle.line_plans.proofs.scopes.plan_barrier.Goals as goal

pub returns-in-Err-clause-done : goal.returns-in-Err-clause-done
unfolding barrier_exchange
returns-in-Err-clause-done c = λ state is.
    subst (λ (g : Grid). IsExchanged (Err c.in-Err.halt) c.args.declared.now c.args.plan.now c.args.plan.now state (exchanged (state_of c.args.declared.now c.args.plan.now state) (barrier_exchange (state_of c.args.declared.now c.args.plan.now state) g c.args.scope)))
    (sym (grid_is c.args.declared.now c.args.plan.now state c.args.grid c.grid-ctx.result.now c.grid-ctx.ensures.is))
    (held_line c.args.declared.now c.args.plan.now c.args.plan.now state (barrier_exchange (state_of c.args.declared.now c.args.plan.now state) c.grid-ctx.result.now c.args.scope) c.in-Err.halt (c.in-Err.ensures.done c.args.declared.now.shapes state is))

pub returns-clause-done : goal.returns-clause-done
unfolding barrier_exchange
returns-clause-done c = λ state is.
    subst (λ (g : Grid). IsExchanged c.settled.result c.args.declared.now c.args.plan.now c.barrier-called.new.plan state (exchanged (state_of c.args.declared.now c.args.plan.now state) (barrier_exchange (state_of c.args.declared.now c.args.plan.now state) g c.args.scope)))
    (sym (grid_is c.args.declared.now c.args.plan.now state c.args.grid c.grid-ctx.result.now c.grid-ctx.ensures.is))
    (c.settled.ensures c.args.plan.now state (barrier_exchange (state_of c.args.declared.now c.args.plan.now state) c.grid-ctx.result.now c.args.scope)
    (barrier_fault (length c.args.plan.now.steps) c.grid-ctx.result.now c.args.scope)
    is (c.in_default.ensures.done c.args.declared.now.shapes state is) refl c.barrier-called.ensures.fault c.barrier-called.ensures.ok)
