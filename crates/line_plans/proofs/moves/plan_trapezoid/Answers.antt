use Rattle.std.proofs.Common.{Err, subst}
use Rattle.descriptor.specs.declared.moves.MrArgs.{MrArgs}
use Rattle.descriptor.specs.Entries.{trmr2d_entries}
use Rattle.mr2d.specs.Calls.{shape_by}
use Rattle.mr2d.proofs.ArgLaws.{rest_passes}
use Rattle.program_meaning.specs.Exchanges.{exchanged, move_exchange}
use Rattle.line_plans.specs.Standing.{state_of, IsExchanged}
use Rattle.line_plans.proofs.MoveLines.{shape_held, shape_done, can_call}
use Rattle.line_plans.proofs.moves.plan_trapezoid.Goals as goal

pub returns-in-Err-clause-done : goal.returns-in-Err-clause-done
returns-in-Err-clause-done c = λ state is.
    subst (λ (y : MrArgs). IsExchanged (Err c.in-Err.halt) c.args.declared.now c.args.plan.now c.args.plan.now state (exchanged (state_of c.args.declared.now c.args.plan.now state) (move_exchange (state_of c.args.declared.now c.args.plan.now state) (shape_by c.args.uplo c.args.diag) y (trmr2d_entries c.args.declared.now.contexts c.args.uplo c.args.diag y)))) c.in-Ok.ensures.args_are
    (shape_held c.args.declared.now c.args.plan.now c.args.plan.now state (shape_by c.args.uplo c.args.diag) c.in-Ok.args (trmr2d_entries c.args.declared.now.contexts c.args.uplo c.args.diag c.in-Ok.args) c.args.mr.now is c.in-Ok.ensures c.in-Err.halt c.in-Err.ensures)

pub pitrmr2d-called-requires : goal.pitrmr2d-called-requires
pitrmr2d-called-requires c = record { can = λ none. can_call c.args.declared.now.contexts c.args.declared.now.shapes c.args.plan.now c.in-Ok.args c.requires.world c.in-Ok.ensures.source c.in-Ok.ensures.target c.in_default-check_move.ensures.quiet }

pub returns-clause-done : goal.returns-clause-done
returns-clause-done c = λ state is.
    subst (λ (y : MrArgs). IsExchanged c.move_settled.result c.args.declared.now c.args.plan.now c.pitrmr2d-called.new.plan state (exchanged (state_of c.args.declared.now c.args.plan.now state) (move_exchange (state_of c.args.declared.now c.args.plan.now state) (shape_by c.args.uplo c.args.diag) y (trmr2d_entries c.args.declared.now.contexts c.args.uplo c.args.diag y)))) c.in-Ok.ensures.args_are
    (shape_done c.args.declared.now c.args.plan.now c.pitrmr2d-called.new.plan state (shape_by c.args.uplo c.args.diag) c.in-Ok.args (trmr2d_entries c.args.declared.now.contexts c.args.uplo c.args.diag c.in-Ok.args) c.args.mr.now is c.in-Ok.ensures c.pitrmr2d-called.result c.move_settled.result c.requires.world c.in_default-check_move.ensures
    (λ none. rest_passes c.args.declared.now.contexts c.args.uplo c.args.diag c.in-Ok.args none)
    (record { done = c.pitrmr2d-called.ensures.done; passes = c.pitrmr2d-called.ensures.passes; bad = c.pitrmr2d-called.ensures.bad; same = c.pitrmr2d-called.ensures.same; full = c.pitrmr2d-called.ensures.full; fits = c.pitrmr2d-called.ensures.fits })
    c.move_settled.ensures)
