use Rattle.std.proofs.Common.{◌+◌, ◌++◌, ◌∷◌, [], List, subst, sym, arith}
use Rattle.std.proofs.lemmas.Nat.{mod_below}
use Rattle.mail_room.specs.Desks.{DeskView}
use Rattle.rank_runner.specs.Dealing.{IsCollecting}
use Rattle.rank_runner.proofs.Dealing.{collecting_top, collecting_step}
use Rattle.rank_runner.proofs.deal.collect.Goals as goal

pub unseat-node-requires : goal.unseat-node-requires
unseat-node-requires g c =
    let at = c.loop-rank.invariant.collecting c.requires.dealt.0 c.requires.dealt.1 c.requires.dealt.2 in
    collecting_top c.args.count c.requires.dealt.0 c.loop-rank.rank c.loop-rank.workers c.loop-rank.nodes.items c.loop-rank.desks.items at (let l = c.requires.dealt.1 in let h = c.loop-rank-test.true in omega (arith, l, h)) (mod_below c.loop-rank.rank c.args.count c.requires.count)

pub loop-rank-preserved : goal.loop-rank-preserved
loop-rank-preserved g c = record {
  collecting = λ all long on.
      let at = c.loop-rank.invariant.collecting all long on in
      let step = collecting_step c.args.count all c.loop-rank.rank c.loop-rank.workers c.unseat-node.new.workers c.loop-rank.nodes.items c.loop-rank.desks.items c.unseat-node.result at (let h = c.loop-rank-test.true in omega (arith, long, h)) (mod_below c.loop-rank.rank c.args.count c.requires.count) c.unseat-node.ensures in
      subst (λ (l : List DeskView). IsCollecting c.args.count (c.loop-rank.rank + 1) all c.unseat-node.new.workers c.push_reserved.new.self.items l) (sym c.push_reserved-in-loop-rank.ensures.items)
      (subst (λ (l : List _). IsCollecting c.args.count (c.loop-rank.rank + 1) all c.unseat-node.new.workers l (c.loop-rank.desks.items ++ c.unseat-node.result.desk ∷ [])) (sym c.push_reserved.ensures.items) step);
  nodes_len = (let a = c.push_reserved.ensures.len in let b = c.loop-rank.invariant.nodes_len in omega (arith, a, b));
  desks_len = (let a = c.push_reserved-in-loop-rank.ensures.len in let b = c.loop-rank.invariant.desks_len in omega (arith, a, b));
  nodes_room = (let a = c.push_reserved.ensures.capacity in let b = c.loop-rank.invariant.nodes_room in omega (arith, a, b));
  desks_room = (let a = c.push_reserved-in-loop-rank.ensures.capacity in let b = c.loop-rank.invariant.desks_room in omega (arith, a, b));
}
