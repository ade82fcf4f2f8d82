use Rattle.std.proofs.Common.{ℕ, List, sym, ◌∙◌, subst}
use Rattle.std.specs.List.{find}
use Rattle.program_meaning.specs.Exchanges.{waits, pairs_among}
use Rattle.line_plans.specs.Waits.{IsHeldUp}
use Rattle.line_plans.proofs.WaitLaws.{members_there}
use Rattle.line_plans.proofs.quiet.check_scope.Goals as goal

pub returns-then-has_scope-clause-done : goal.returns-then-has_scope-clause-done
returns-then-has_scope-clause-done c = λ v state is.
    subst (λ (ranks : List ℕ). IsHeldUp c.check_members.result (find (waits state) (pairs_among ranks))) (sym (members_there c.args.ctx.now c.args.scope (sym c.has_scope.ensures ∙ c.if-has_scope.true))) (c.check_members.ensures.done v state is)
