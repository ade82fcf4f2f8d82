-- The operation was appended or refused.
use Rattle.std.proofs.Common.{◌≡◌, rules, Some, slice_get}
use Rattle.pack_words.specs.RankOps.{CanDo}
use Rattle.words_tests.proofs.Adding.{all_after, can_at}
use Rattle.words_tests.proofs.trial.add.Goals as goal

pub returns-then-to-ranks-clause-all : goal.returns-then-to-ranks-clause-all
returns-then-to-ranks-clause-all c =
    let here : slice_get c.args.nodes.now c.args.rank ≡ Some c.in-Some.node.now = search rules in
    let can : CanDo c.in-Some.node.now c.args.op = search rules in
    all_after c.push_send.result c.args.nodes.now c.args.plan.now.steps c.push_send.new.self.steps (c.args.rank, c.args.op) c.push_send.ensures.ok c.push_send.ensures.err (can_at c.args.nodes.now c.args.rank c.in-Some.node.now c.args.op here can) c.requires.all

pub returns-then-from-ranks-clause-all : goal.returns-then-from-ranks-clause-all
returns-then-from-ranks-clause-all c =
    let here : slice_get c.args.nodes.now c.args.rank ≡ Some c.in-Some.node.now = search rules in
    let can : CanDo c.in-Some.node.now c.args.op = search rules in
    all_after c.push_recv.result c.args.nodes.now c.args.plan.now.steps c.push_recv.new.self.steps (c.args.rank, c.args.op) c.push_recv.ensures.ok c.push_recv.ensures.err (can_at c.args.nodes.now c.args.rank c.in-Some.node.now c.args.op here can) c.requires.all

pub returns-in-Local-clause-all : goal.returns-in-Local-clause-all
returns-in-Local-clause-all c =
    let here : slice_get c.args.nodes.now c.args.rank ≡ Some c.in-Some.node.now = search rules in
    let can : CanDo c.in-Some.node.now c.args.op = search rules in
    all_after c.push_local.result c.args.nodes.now c.args.plan.now.steps c.push_local.new.self.steps (c.args.rank, c.args.op) c.push_local.ensures.ok c.push_local.ensures.err (can_at c.args.nodes.now c.args.rank c.in-Some.node.now c.args.op here can) c.requires.all
