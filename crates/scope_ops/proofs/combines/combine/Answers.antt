-- The members, their arrays, and what is appended.
use Rattle.std.specs.Prelude.{ℕ, Option, List}
use Rattle.std.proofs.Common.{sym, subst}
use Rattle.pack_words.specs.declared.coords.Coords.{Coords}
use Rattle.scope_ops.specs.Scopes.{IsListed}
use Rattle.scope_ops.specs.CombineOps.{IsGathered}
use Rattle.scope_ops.specs.CombineRefusals.{root_place}
use Rattle.scope_ops.proofs.CombineCalls.{combine_made, combine_along}
use Rattle.scope_ops.proofs.Calls.{on_ok}
use Rattle.scope_ops.proofs.combines.combine.Goals as goal

pub returns-clause-ok : goal.returns-clause-ok
returns-clause-ok c =
    let is : IsListed c.args.ctx.now c.args.shapes.now c.args.scope (root_place c.args.scope c.args.dest) c.deref-members.result.now c.in-Ok.found.1
    = subst (λ (xs : List ℕ). IsListed c.args.ctx.now c.args.shapes.now c.args.scope (root_place c.args.scope c.args.dest) xs c.in-Ok.found.1) (sym c.deref-members.ensures.value)
    (subst (λ (p : ℕ × ℕ). IsListed c.args.ctx.now c.args.shapes.now c.args.scope p c.in-Ok.found.0.items c.in-Ok.found.1) c.root_place.ensures c.in-Ok.ensures.ok) in
    on_ok c.push_gather.result (λ gathered. combine_made c.args.ctx.now c.args.shapes.now c.args.plan.now c.push_gather.new.plan c.args.top c.args.scope c.args.dest c.args.fold c.args.part.now c.args.rc c.deref-members.result.now c.in-Ok.found.1 is c.in_default.ensures.part c.in_default.ensures.rc c.requires.ask (c.requires.quiet is.place_is.scope_is)
    (subst (λ (cs : Option Coords). IsGathered c.args.plan.now c.push_gather.new.plan c.args.top c.deref-members.result.now c.in-Ok.found.1 (record { fold = c.args.fold; part = c.args.part.now; coords = cs }) c.args.dest) c.coords_of.ensures gathered) c.push_gather.ensures.ranks)
    c.push_gather.ensures.ok

pub returns-clause-along : goal.returns-clause-along
returns-clause-along c =
    let is : IsListed c.args.ctx.now c.args.shapes.now c.args.scope (root_place c.args.scope c.args.dest) c.deref-members.result.now c.in-Ok.found.1
    = subst (λ (xs : List ℕ). IsListed c.args.ctx.now c.args.shapes.now c.args.scope (root_place c.args.scope c.args.dest) xs c.in-Ok.found.1) (sym c.deref-members.ensures.value)
    (subst (λ (p : ℕ × ℕ). IsListed c.args.ctx.now c.args.shapes.now c.args.scope p c.in-Ok.found.0.items c.in-Ok.found.1) c.root_place.ensures c.in-Ok.ensures.ok) in
    on_ok c.push_gather.result (λ gathered. combine_along c.args.ctx.now c.args.shapes.now c.args.plan.now c.push_gather.new.plan c.args.top c.args.scope c.args.dest c.args.fold c.args.part.now c.args.rc c.deref-members.result.now c.in-Ok.found.1 is
    (subst (λ (cs : Option Coords). IsGathered c.args.plan.now c.push_gather.new.plan c.args.top c.deref-members.result.now c.in-Ok.found.1 (record { fold = c.args.fold; part = c.args.part.now; coords = cs }) c.args.dest) c.coords_of.ensures gathered))
    c.push_gather.ensures.ok
