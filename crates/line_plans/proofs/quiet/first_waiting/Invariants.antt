use Rattle.std.proofs.Common.{◌≡◌, drop}
use Rattle.line_plans.specs.Waits.{holds_up, first_pair}
use Rattle.line_plans.proofs.quiet.first_waiting.Given as goal

abbrev pub invariant-loop-k : goal.invariant-loop-k
invariant-loop-k l = first_pair (holds_up l.plan l.own) l.froms l.tos ≡ first_pair (holds_up l.plan l.own) (drop l.k l.froms) l.tos
