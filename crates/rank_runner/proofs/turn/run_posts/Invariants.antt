use Rattle.std.proofs.Common.{◌≡◌, map, All}
use Rattle.rank_runner.specs.Stands.{IsReady, fate}
use Rattle.rank_runner.proofs.turn.run_posts.Given as goal

abbrev pub invariant-loop : goal.invariant-loop
invariant-loop g l = record {
  ready : All (IsReady g.N.Op.Step g.N.Node l.steps) l.posts.items;
  fates : map (fate g.N.Op.Step g.N.Node l.steps) l.posts.items ≡ map (fate g.N.Op.Step g.N.Node l.steps) l.fn.posts.items;
}
