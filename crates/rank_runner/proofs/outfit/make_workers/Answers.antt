use Rattle.std.proofs.Common.{◌≡◌, [], ap, ◌∙◌, arith, vec_len, vec_capacity}
use Rattle.std.proofs.lemmas.List.Elements.{All-push, All-same}
use Rattle.rank_runner.specs.Stacks.{HasRoom, posts_in}
use Rattle.rank_runner.proofs.outfit.make_workers.Goals as goal

pub loop-preserved : goal.loop-preserved
loop-preserved g c = record {
  len = (let a = c.in_ok-push.ensures.len in let b = c.loop.invariant.len in omega (arith, a, b));
  empty = All-same (λ w. posts_in w ≡ []) _ _ c.in_ok-push.ensures.items (All-push (λ w. posts_in w ≡ []) c.loop.workers.items c.new.result c.loop.invariant.empty (ap (λ w. w.posts.items) c.new.ensures ∙ c.in_ok-posts.ensures.items));
  room = All-same (HasRoom c.args.ranks) _ _ c.in_ok-push.ensures.items
      (All-push (HasRoom c.args.ranks) c.loop.workers.items c.new.result c.loop.invariant.room
      (let a = ap (λ w. vec_len w.posts) c.new.ensures in let b = ap (λ w. vec_capacity w.posts) c.new.ensures in let l = c.in_ok-posts.ensures.len in let e = c.in_ok-posts.ensures.exact in omega (arith, a, b, l, e)));
}
