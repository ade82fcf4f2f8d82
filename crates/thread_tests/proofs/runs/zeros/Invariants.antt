use Rattle.std.proofs.Common.{◌≡◌, vec_len}
use Rattle.thread_tests.proofs.runs.zeros.Given as goal

abbrev pub invariant-loop : goal.invariant-loop
invariant-loop l = vec_len l.cells ≡ l.counter
