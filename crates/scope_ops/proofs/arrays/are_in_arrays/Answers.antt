-- A member whose arrays don't serve.
use Rattle.std.proofs.Common.{◌≡◌, false, length, sym, ◌∙◌, arith}
use Rattle.scope_ops.specs.CombineRefusals.{is_in_arrays}
use Rattle.scope_ops.proofs.Below.{below_fails}
use Rattle.scope_ops.proofs.arrays.are_in_arrays.Goals as goal

pub returns-then-not-is_in_arrays : goal.returns-then-not-is_in_arrays
returns-then-not-is_in_arrays c =
    let fails : is_in_arrays c.args.shapes.now c.args.members.now c.args.part.now c.args.rc c.loop-k.k ≡ false = sym c.is_in_arrays.ensures ∙ c.if-not-is_in_arrays.true in
    sym (below_fails (is_in_arrays c.args.shapes.now c.args.members.now c.args.part.now c.args.rc) (length c.args.members.now) c.loop-k.k (omega arith) fails)
