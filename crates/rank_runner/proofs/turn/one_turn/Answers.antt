use Rattle.std.proofs.Common.{◌≡◌, ◌∙◌, length, arith}
use Rattle.std.proofs.lemmas.List.{length-set}
use Rattle.std.proofs.lemmas.List.Elements.{All-set, AllWithin-more_set, AllWithin-upto, All-from_all_within}
use Rattle.rank_runner.specs.Stands.{IsReady, fate, outcome}
use Rattle.rank_runner.proofs.Each.{map_all, set_kept}
use Rattle.rank_runner.proofs.turn.one_turn.Goals as goal

pub loop-i-preserved : goal.loop-i-preserved
loop-i-preserved g c =
    record {
      len = length-set c.loop-i.posts.items c.loop-i.i c.visit-turn.new.post ∙ c.loop-i.invariant.len;
      ready = All-set (IsReady g.N.Op.Step g.N.Node c.args.steps.now) c.loop-i.posts.items c.loop-i.i c.visit-turn.new.post c.visit-turn.ensures.ready c.loop-i.invariant.ready;
      fates = set_kept (fate g.N.Op.Step g.N.Node c.args.steps.now) c.loop-i.posts.items c.loop-i.i c.index_mut-post.result.now c.visit-turn.new.post c.index_mut-post.ensures.value c.visit-turn.ensures.fate ∙ c.loop-i.invariant.fates;
      over = λ e. AllWithin-more_set c.loop-i.posts.items c.loop-i.i c.visit-turn.new.post (let h = c.loop-i-test.true in let n = c.len-i-end.ensures in let l = c.loop-i.invariant.len in omega (arith, h, n, l)) (λ p. outcome p ≡ fate g.N.Op.Step g.N.Node c.args.steps.now p)
          (c.loop-i.invariant.over (c.visit-turn.ensures.over e).0) (c.visit-turn.ensures.over e).1;
    }

pub returns-clause-over : goal.returns-clause-over
returns-clause-over g c = λ e.
    map_all outcome (fate g.N.Op.Step g.N.Node c.args.steps.now) c.loop-i.posts.items
    (All-from_all_within (λ p. outcome p ≡ fate g.N.Op.Step g.N.Node c.args.steps.now p) c.loop-i.posts.items
    (AllWithin-upto (λ p. outcome p ≡ fate g.N.Op.Step g.N.Node c.args.steps.now p) c.loop-i.posts.items 0 c.loop-i.i (length c.loop-i.posts.items) (let h = c.loop-i-test.false in let n = c.len-i-end.ensures in let l = c.loop-i.invariant.len in omega (arith, h, n, l)) (c.loop-i.invariant.over e)))
