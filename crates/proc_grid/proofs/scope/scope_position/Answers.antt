use Rattle.std.specs.Prelude.{◌≡◌, ◌↔◌, ℕ, Option, Some}
use Rattle.std.proofs.Common.{sym, subst}
use Rattle.proc_grid.specs.Scopes.{IsPosition}
use Rattle.proc_grid.proofs.ScopeLemmas.{position_is}
use Rattle.proc_grid.proofs.scope.scope_position.Goals as goal

pub returns-clause-member : goal.returns-clause-member
returns-clause-member c = λ k.
    let P : Option ℕ → Type 0 = λ o. (o ≡ Some k) ↔ IsPosition c.args.ctx.now c.args.scope c.args.place k in
    subst P (sym c.position.ensures.position) (position_is c.args.ctx.now c.args.scope c.args.place k c.position.ensures.grid)
