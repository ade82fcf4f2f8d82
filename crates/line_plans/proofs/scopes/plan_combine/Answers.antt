use Rattle.std.proofs.Common.{refl, sym, subst, Err, length}
use Rattle.proc_grid.specs.Grid.{Grid}
use Rattle.scope_ops.specs.CombineRefusals.{combine_fault}
use Rattle.program_meaning.specs.Exchanges.{exchanged, combine_exchange}
use Rattle.line_plans.specs.Standing.{state_of, IsExchanged}
use Rattle.line_plans.proofs.Settling.{grid_is}
use Rattle.line_plans.proofs.MoveLines.{held_line}
use Rattle.line_plans.proofs.scopes.plan_combine.Goals as goal

pub returns-in-Err-clause-done : goal.returns-in-Err-clause-done
unfolding combine_exchange
returns-in-Err-clause-done c = λ state is.
    subst (λ (g : Grid). IsExchanged (Err c.in-Err.halt) c.args.declared.now c.args.plan.now c.args.plan.now state (exchanged (state_of c.args.declared.now c.args.plan.now state) (combine_exchange (state_of c.args.declared.now c.args.plan.now state) g c.args.scope c.args.fold c.args.dest c.args.part.now c.args.rc)))
    (sym (grid_is c.args.declared.now c.args.plan.now state c.args.grid c.grid-ctx.result.now c.grid-ctx.ensures.is))
    (held_line c.args.declared.now c.args.plan.now c.args.plan.now state (combine_exchange (state_of c.args.declared.now c.args.plan.now state) c.grid-ctx.result.now c.args.scope c.args.fold c.args.dest c.args.part.now c.args.rc) c.in-Err.halt (c.in-Err.ensures.done c.args.declared.now.shapes state is))

pub returns-clause-done : goal.returns-clause-done
unfolding combine_exchange
returns-clause-done c = λ state is.
    subst (λ (g : Grid). IsExchanged c.settled.result c.args.declared.now c.args.plan.now c.call_combine-called.new.plan state (exchanged (state_of c.args.declared.now c.args.plan.now state) (combine_exchange (state_of c.args.declared.now c.args.plan.now state) g c.args.scope c.args.fold c.args.dest c.args.part.now c.args.rc)))
    (sym (grid_is c.args.declared.now c.args.plan.now state c.args.grid c.grid-ctx.result.now c.grid-ctx.ensures.is))
    (c.settled.ensures c.args.plan.now state (combine_exchange (state_of c.args.declared.now c.args.plan.now state) c.grid-ctx.result.now c.args.scope c.args.fold c.args.dest c.args.part.now c.args.rc)
    (combine_fault (length c.args.plan.now.steps) c.args.declared.now.shapes c.grid-ctx.result.now c.args.scope c.args.dest c.args.part.now c.args.rc)
    is (c.in_default.ensures.done c.args.declared.now.shapes state is) refl c.call_combine-called.ensures.fault c.call_combine-called.ensures.ok)
