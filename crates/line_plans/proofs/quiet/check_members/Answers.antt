use Rattle.std.proofs.Common.{◌≡◌, ℕ, List, false, sym, ◌∙◌, subst}
use Rattle.std.specs.List.{find}
use Rattle.proc_grid.specs.Scopes.{members, AreDistinct}
use Rattle.scope_ops.specs.Broadcasts.{IsQuiet}
use Rattle.program_meaning.specs.Exchanges.{waits, pairs_among}
use Rattle.line_plans.specs.Waits.{holds_up, first_pair}
use Rattle.line_plans.proofs.WaitLaws.{held_quiet, held_told, quiet_members, scope_pair, pair_of}
use Rattle.line_plans.proofs.quiet.check_members.Goals as goal

pub returns-clause-quiet : goal.returns-clause-quiet
returns-clause-quiet c =
    let pair : c.first_waiting.result ≡ first_pair (holds_up c.args.plan.now false) (members c.args.ctx.now c.args.scope) (members c.args.ctx.now c.args.scope) = pair_of (holds_up c.args.plan.now false) c.deref.result.now c.deref-2.result.now (members c.args.ctx.now c.args.scope) c.first_waiting.result c.first_waiting.ensures (c.deref.ensures.value ∙ c.in-Ok.ensures.members) (c.deref-2.ensures.value ∙ c.in-Ok.ensures.members) in
    held_quiet c.hold.result c.first_waiting.result (IsQuiet c.args.plan.now (members c.args.ctx.now c.args.scope)) c.hold.ensures (λ none.
    quiet_members c.args.plan.now (members c.args.ctx.now c.args.scope) (subst (λ (ranks : List ℕ). AreDistinct ranks) c.in-Ok.ensures.members c.in-Ok.ensures.distinct) (sym pair ∙ none))

pub returns-clause-done : goal.returns-clause-done
returns-clause-done c = λ v state is.
    let pair : c.first_waiting.result ≡ first_pair (holds_up c.args.plan.now false) (members c.args.ctx.now c.args.scope) (members c.args.ctx.now c.args.scope) = pair_of (holds_up c.args.plan.now false) c.deref.result.now c.deref-2.result.now (members c.args.ctx.now c.args.scope) c.first_waiting.result c.first_waiting.ensures (c.deref.ensures.value ∙ c.in-Ok.ensures.members) (c.deref-2.ensures.value ∙ c.in-Ok.ensures.members) in
    held_told c.hold.result c.first_waiting.result (find (waits state) (pairs_among (members c.args.ctx.now c.args.scope))) c.hold.ensures (scope_pair v c.args.plan.now state (members c.args.ctx.now c.args.scope) is ∙ sym pair)
