use Rattle.std.specs.Prelude.{ℕ, ◌≤◌, List, length}
use Rattle.std.proofs.Common.{sym, subst}
use Rattle.proc_grid.specs.Scopes.{AreDistinct}
use Rattle.proc_grid.proofs.ScopeLemmas.{members_distinct, few_members}
use Rattle.proc_grid.proofs.scope.scope_members.Goals as goal

pub returns-clause-distinct : goal.returns-clause-distinct
returns-clause-distinct c = subst (λ (ranks : List ℕ). AreDistinct ranks) (sym c.in_ok-ranks.ensures) (members_distinct c.args.ctx.now c.args.scope c.is_grid.ensures.grid c.requires)

pub returns-clause-few : goal.returns-clause-few
returns-clause-few c = subst (λ (ranks : List ℕ). length ranks ≤ 64) (sym c.in_ok-ranks.ensures) (few_members c.args.ctx.now c.args.scope c.is_grid.ensures.grid)
