use Rattle.std.proofs.Common.{◌≡◌, true, length, map, All}
use Rattle.std.specs.List.{AllWithin}
use Rattle.rank_runner.specs.Stands.{IsReady, fate, outcome}
use Rattle.rank_runner.proofs.turn.one_turn.Given as goal

abbrev pub invariant-loop-i : goal.invariant-loop-i
invariant-loop-i g l = record {
  len : length l.posts.items ≡ length l.fn.posts.items;
  ready : All (IsReady g.N.Op.Step g.N.Node l.steps) l.posts.items;
  fates : map (fate g.N.Op.Step g.N.Node l.steps) l.posts.items ≡ map (fate g.N.Op.Step g.N.Node l.steps) l.fn.posts.items;
  over : l.turn.over ≡ true → AllWithin (λ p. outcome p ≡ fate g.N.Op.Step g.N.Node l.steps p) l.posts.items 0 l.i;
}
