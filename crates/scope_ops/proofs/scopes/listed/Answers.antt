-- The members and the position.
use Rattle.std.proofs.Common.{sym}
use Rattle.scope_ops.proofs.Scoped.{is_listed}
use Rattle.scope_ops.proofs.scopes.listed.Goals as goal

pub returns-clause-ok : goal.returns-clause-ok
returns-clause-ok c = is_listed c.args.ctx.now c.args.shapes.now c.args.scope c.args.place c.in-Ok.ranks.items c.in-Some.position c.scope_position.ensures.grid c.ranks-ranks.ensures.shapes c.requires (sym c.in-Some.ensures.position) c.in-Ok.ensures.members
