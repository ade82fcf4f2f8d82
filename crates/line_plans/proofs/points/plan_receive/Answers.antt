use Rattle.std.proofs.Common.{ℕ, List, refl, sym, ap, subst, length}
use Rattle.std.specs.Option.{option_map}
use Rattle.msg_core.specs.Plans.{waiting_lens}
use Rattle.proc_grid.specs.Grid.{Grid, rank_of}
use Rattle.pack_words.specs.GridState.{rank_steps}
use Rattle.scope_ops.specs.Refusals.{receive_fault}
use Rattle.program_meaning.specs.declared.fault.ExecFault.TheVariants as fault
use Rattle.program_meaning.specs.Exchanges.{exchanged, shape_in, receive_exchange}
use Rattle.line_plans.specs.Standing.{state_of, IsExchanged}
use Rattle.line_plans.proofs.Settling.{grid_is}
use Rattle.line_plans.proofs.points.plan_receive.Goals as goal

pub returns-clause-done : goal.returns-clause-done
unfolding receive_exchange
returns-clause-done c = λ state is.
    subst (λ (g : Grid). IsExchanged c.settled.result c.args.declared.now c.args.plan.now c.call_receive-called.new.plan state (exchanged (state_of c.args.declared.now c.args.plan.now state) (receive_exchange (state_of c.args.declared.now c.args.plan.now state) g c.args.me (shape_in c.args.tri) c.args.part.now c.args.src)))
    (sym (grid_is c.args.declared.now c.args.plan.now state c.args.grid c.grid-ctx.result.now c.grid-ctx.ensures.is))
    (c.settled.ensures c.args.plan.now state (receive_exchange (state_of c.args.declared.now c.args.plan.now state) c.grid-ctx.result.now c.args.me (shape_in c.args.tri) c.args.part.now c.args.src)
    (receive_fault (length c.args.plan.now.steps) (waiting_lens rank_steps c.args.plan.now) c.args.declared.now.shapes c.grid-ctx.result.now c.args.me (shape_in c.args.tri) c.args.part.now c.args.src)
    is refl
    (ap (λ (lens : List ℕ). option_map fault.Scope (receive_fault (length c.args.plan.now.steps) (λ from to. lens) c.args.declared.now.shapes c.grid-ctx.result.now c.args.me (shape_in c.args.tri) c.args.part.now c.args.src)) (sym (is.lens_are (rank_of c.grid-ctx.result.now c.args.src) (rank_of c.grid-ctx.result.now c.args.me))))
    c.call_receive-called.ensures.fault c.call_receive-called.ensures.ok)
