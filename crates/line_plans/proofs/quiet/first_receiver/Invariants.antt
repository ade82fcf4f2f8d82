use Rattle.std.proofs.Common.{◌≡◌, drop}
use Rattle.std.specs.List.{find}
use Rattle.line_plans.specs.Waits.{holds_up}
use Rattle.line_plans.proofs.quiet.first_receiver.Given as goal

abbrev pub invariant-loop-k : goal.invariant-loop-k
invariant-loop-k l = find (holds_up l.plan l.own l.from) l.tos ≡ find (holds_up l.plan l.own l.from) (drop l.k l.tos)
