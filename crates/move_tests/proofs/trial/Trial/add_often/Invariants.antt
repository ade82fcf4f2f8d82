use Rattle.move_tests.specs.MovePlans.{IsTrial}
use Rattle.move_tests.proofs.trial.Trial.add_often.Given as goal

abbrev pub invariant-loop : goal.invariant-loop
invariant-loop l = IsTrial l.self
