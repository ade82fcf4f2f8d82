use Rattle.route_plans.proofs.CallLaws.{are_quiet}
use Rattle.route_plans.proofs.calls.quiet_by_lens.Goals as goal

pub returns : goal.returns
returns g c = are_quiet
