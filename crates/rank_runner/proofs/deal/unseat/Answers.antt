use Rattle.std.proofs.Common.{get_or}
use Rattle.std.proofs.lemmas.List.{get_or_default}
use Rattle.rank_runner.specs.Stands.{outcome}
use Rattle.rank_runner.proofs.Stacking.{some_on, some_post, popped}
use Rattle.rank_runner.proofs.deal.unseat.Goals as goal

pub bounds-workers-k : goal.bounds-workers-k
bounds-workers-k g c = some_on outcome c.args.workers.now c.args.k c.requires.0 c.requires.1 c.requires.2

pub pop_padded-requires : goal.pop_padded-requires
pop_padded-requires g c =
    let below = some_on outcome c.args.workers.now c.args.k c.requires.0 c.requires.1 c.requires.2 in
    let w = get_or c.args.workers.now c.args.k c.index-workers-k.result in
    some_post outcome c.args.workers.now c.args.k w c.requires.0 c.requires.1 (get_or_default c.args.workers.now c.args.k c.index-workers-k.result w below) c.requires.2

pub returns : goal.returns
returns g c = λ x xs e.
    let below = some_on outcome c.args.workers.now c.args.k x xs e in
    let w = get_or c.args.workers.now c.args.k c.index-workers-k.result in
    popped outcome c.args.workers.now c.args.k w c.pop_padded.new.worker c.pop_padded.result x xs below (get_or_default c.args.workers.now c.args.k c.index-workers-k.result w below) c.pop_padded.ensures e
