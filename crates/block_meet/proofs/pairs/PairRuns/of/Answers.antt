use Rattle.std.proofs.Common.{◌≡◌, filter, take, length, ◌∙◌, subst, arith}
use Rattle.std.proofs.lemmas.List.{take_all}
use Rattle.block_meet.specs.Runs.{IsAxis}
use Rattle.block_meet.specs.Pairs.{Dealt, lies_on}
use Rattle.block_meet.proofs.PairLemmas.{nth_more}
use Rattle.block_meet.proofs.ExistLemmas.{pair_short}
use Rattle.block_meet.proofs.pairs.PairRuns.of.Goals as goal

pub loop-k-preserved : goal.loop-k-preserved
loop-k-preserved c = λ rs h. nth_more (filter (lies_on c.args.p c.args.q) rs) _ _ c.loop-k.k c.run.result (c.run.ensures.list rs h) (c.loop-k.invariant rs h) c.in_ok-push.ensures.items

pub returns-clause-list : goal.returns-clause-list
returns-clause-list c = λ rs h.
    let count : length (filter (lies_on c.args.p c.args.q) rs) ≡ c.len-count.result = c.len-count.ensures.list rs h in
    let all : take c.loop-k.k (filter (lies_on c.args.p c.args.q) rs) ≡ filter (lies_on c.args.p c.args.q) rs = take_all _ _ (omega arith) in
    c.loop-k.invariant rs h ∙ all

pub returns-clause-short : goal.returns-clause-short
returns-clause-short c =
    let wa = subst (λ (t : Dealt). IsAxis t.n t.a) c.self.view_is c.self.invariant.first in
    let wb = subst (λ (t : Dealt). IsAxis t.n t.b) c.self.view_is c.self.invariant.second in
    pair_short c.args.self.now.n c.args.self.now.a c.args.self.now.b c.args.p c.args.q _ wa wb (returns-clause-list c)
