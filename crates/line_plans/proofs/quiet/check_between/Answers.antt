use Rattle.std.proofs.Common.{◌≡◌, true, None, sym, ◌∙◌}
use Rattle.std.specs.List.{find}
use Rattle.program_meaning.specs.Exchanges.{waits, pairs_between}
use Rattle.line_plans.specs.Waits.{holds_up, first_pair, AreQuiet}
use Rattle.line_plans.proofs.WaitLaws.{held_quiet, held_told, quiet_between, move_pair}
use Rattle.line_plans.proofs.quiet.check_between.Goals as goal

pub returns-clause-quiet : goal.returns-clause-quiet
returns-clause-quiet c =
    let pair : c.first_waiting.result ≡ first_pair (holds_up c.args.plan.now true) c.args.a.now.ranks c.args.b.now.ranks = cc in
    held_quiet c.hold.result c.first_waiting.result (AreQuiet c.args.plan.now c.args.a.now.ranks c.args.b.now.ranks) c.hold.ensures (λ none.
    let e : first_pair (holds_up c.args.plan.now true) c.args.a.now.ranks c.args.b.now.ranks ≡ None = cc in
    quiet_between c.args.plan.now c.args.a.now.ranks c.args.b.now.ranks e)

pub returns-clause-done : goal.returns-clause-done
returns-clause-done c = λ v state is.
    let pair : c.first_waiting.result ≡ first_pair (holds_up c.args.plan.now true) c.args.a.now.ranks c.args.b.now.ranks = cc in
    let same = move_pair v c.args.plan.now state c.args.a.now.ranks c.args.b.now.ranks is in
    held_told c.hold.result c.first_waiting.result (find (waits state) (pairs_between c.args.a.now.ranks c.args.b.now.ranks)) c.hold.ensures (same ∙ sym pair)
