use Rattle.std.proofs.Common.{Result, subst}
use Rattle.std.specs.Prelude.{OnOk}
use Rattle.scope_ops.specs.Calls.{IsMade}
use Rattle.scope_ops.specs.Refusals.{IsAnswer}
use Rattle.scope_ops.specs.declared.scope_err.ScopeErr.{ScopeErr}
use Rattle.line_plans.proofs.Settling.{settles}
use Rattle.line_plans.proofs.settled.settled.Goals as goal

pub returns-in-Ok : goal.returns-in-Ok
returns-in-Ok c = λ p state x cause is quiet refused answer made.
    settles c.args.declared.now p c.args.plan.now state x cause c.words_so_far.result is quiet refused
    (subst (λ (r : Result (Unit {0}) ScopeErr). IsAnswer r cause) c.in-Ok.is answer)
    (subst (λ (r : Result (Unit {0}) ScopeErr). OnOk r (IsMade c.args.declared.now.shapes p c.args.plan.now x.does x.operations x.messages x.words)) c.in-Ok.is made)
    c.words_so_far.ensures
