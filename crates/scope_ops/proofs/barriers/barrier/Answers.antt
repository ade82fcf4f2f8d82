-- A barrier.
use Rattle.std.proofs.Common.{ℕ, List, subst}
use Rattle.scope_ops.specs.CombineOps.{IsPulsed}
use Rattle.scope_ops.proofs.Calls.{on_ok}
use Rattle.scope_ops.proofs.CombineCalls.{barrier_made}
use Rattle.scope_ops.proofs.barriers.barrier.Goals as goal

pub returns-clause-ok : goal.returns-clause-ok
returns-clause-ok c =
    let is = c.in-Ok.ensures.ok in
    on_ok c.push_barrier.result (λ pulsed. barrier_made c.args.ctx.now c.args.shapes.now c.args.plan.now c.push_barrier.new.plan c.args.scope c.root_place.result c.in-Ok.found.0.items c.in-Ok.found.1 is (c.requires.quiet is.place_is.scope_is)
    (subst (λ (xs : List ℕ). IsPulsed c.args.plan.now c.push_barrier.new.plan xs) c.deref.ensures.value pulsed) c.push_barrier.ensures.ranks)
    c.push_barrier.ensures.ok
