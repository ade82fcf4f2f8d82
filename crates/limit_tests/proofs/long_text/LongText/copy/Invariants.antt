use Rattle.std.proofs.Common.{length, ◌-◌, ◌≤◌, ◌≡◌}
use Rattle.limit_tests.proofs.long_text.LongText.copy.Given as goal

abbrev pub invariant-loop-done : goal.invariant-loop-done
invariant-loop-done l = record {
  within : l.done ≤ length l.initial.room;
  same : length l.room ≡ length l.initial.room;
}

abbrev pub decreases-loop-done : goal.decreases-loop-done
decreases-loop-done l = length l.initial.room - l.done
