use Rattle.std.proofs.Common.{Err, subst}
use Rattle.descriptor.specs.declared.moves.MrArgs.{MrArgs}
use Rattle.descriptor.specs.Entries.{gemr2d_entries}
use Rattle.pack_words.specs.declared.shape.Shape.TheVariants.{Ge}
use Rattle.program_meaning.specs.Exchanges.{exchanged, move_exchange}
use Rattle.line_plans.specs.Standing.{state_of, IsExchanged}
use Rattle.line_plans.proofs.MoveLines.{shape_held, shape_done, can_call}
use Rattle.line_plans.proofs.moves.plan_general.Goals as goal

pub returns-in-Err-clause-done : goal.returns-in-Err-clause-done
returns-in-Err-clause-done c = λ state is.
    subst (λ (y : MrArgs). IsExchanged (Err c.in-Err.halt) c.args.declared.now c.args.plan.now c.args.plan.now state (exchanged (state_of c.args.declared.now c.args.plan.now state) (move_exchange (state_of c.args.declared.now c.args.plan.now state) Ge y (gemr2d_entries c.args.declared.now.contexts y)))) c.in-Ok.ensures.args_are
    (shape_held c.args.declared.now c.args.plan.now c.args.plan.now state Ge c.in-Ok.args (gemr2d_entries c.args.declared.now.contexts c.in-Ok.args) c.args.mr.now is c.in-Ok.ensures c.in-Err.halt c.in-Err.ensures)

pub pigemr2d-called-requires : goal.pigemr2d-called-requires
pigemr2d-called-requires c = record { can = λ none. can_call c.args.declared.now.contexts c.args.declared.now.shapes c.args.plan.now c.in-Ok.args c.requires.world c.in-Ok.ensures.source c.in-Ok.ensures.target c.in_default-check_move.ensures.quiet }

pub returns-clause-done : goal.returns-clause-done
returns-clause-done c = λ state is.
    subst (λ (y : MrArgs). IsExchanged c.move_settled.result c.args.declared.now c.args.plan.now c.pigemr2d-called.new.plan state (exchanged (state_of c.args.declared.now c.args.plan.now state) (move_exchange (state_of c.args.declared.now c.args.plan.now state) Ge y (gemr2d_entries c.args.declared.now.contexts y)))) c.in-Ok.ensures.args_are
    (shape_done c.args.declared.now c.args.plan.now c.pigemr2d-called.new.plan state Ge c.in-Ok.args (gemr2d_entries c.args.declared.now.contexts c.in-Ok.args) c.args.mr.now is c.in-Ok.ensures c.pigemr2d-called.result c.move_settled.result c.requires.world c.in_default-check_move.ensures
    (λ none. (0, none))
    (record { done = c.pigemr2d-called.ensures.done; passes = c.pigemr2d-called.ensures.passes; bad = c.pigemr2d-called.ensures.bad; same = c.pigemr2d-called.ensures.same; full = c.pigemr2d-called.ensures.full; fits = c.pigemr2d-called.ensures.fits })
    c.move_settled.ensures)
