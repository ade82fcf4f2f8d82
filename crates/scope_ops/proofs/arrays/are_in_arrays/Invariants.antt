use Rattle.std.proofs.Common.{◌≡◌, true}
use Rattle.scope_ops.specs.Scopes.{all_below}
use Rattle.scope_ops.specs.CombineRefusals.{is_in_arrays}
use Rattle.scope_ops.proofs.arrays.are_in_arrays.Given as goal

abbrev pub invariant-loop-k : goal.invariant-loop-k
invariant-loop-k l = all_below (is_in_arrays l.shapes l.members l.part l.rc) l.k ≡ true
