use Rattle.std.proofs.Common.{get_or}
use Rattle.std.proofs.lemmas.List.{get_or_default}
use Rattle.rank_runner.specs.Stands.{fate}
use Rattle.rank_runner.proofs.Stacking.{pushed}
use Rattle.rank_runner.proofs.Dealing.{seat_ready, seat_room}
use Rattle.rank_runner.proofs.deal.seat.Goals as goal

pub add_padded-requires : goal.add_padded-requires
add_padded-requires g c = c.requires.room c.args.k c.index-workers-k.result c.requires.place

pub returns-clause-ready : goal.returns-clause-ready
returns-clause-ready g c =
    let w = get_or c.args.workers.now c.args.k c.index-workers-k.result in
    seat_ready g.N.Op.Step g.N.Node c.args._steps.now c.args.workers.now c.args.k w c.add_padded.new.worker c.args.post c.requires.place (get_or_default c.args.workers.now c.args.k c.index-workers-k.result w c.requires.place) c.add_padded.ensures.posts c.requires.ready c.requires.workers

pub returns-clause-room : goal.returns-clause-room
returns-clause-room g c =
    let w = get_or c.args.workers.now c.args.k c.index-workers-k.result in
    λ m h. seat_room g.N.Op.Step g.N.Node c.args._steps.now m c.args.workers.now c.args.k w c.add_padded.new.worker c.requires.place (get_or_default c.args.workers.now c.args.k c.index-workers-k.result w c.requires.place) (c.add_padded.ensures.room m) h

pub returns-clause-stacks : goal.returns-clause-stacks
returns-clause-stacks g c =
    let w = get_or c.args.workers.now c.args.k c.index-workers-k.result in
    pushed (fate g.N.Op.Step g.N.Node c.args._steps.now) c.args.workers.now c.args.k w c.add_padded.new.worker c.args.post c.requires.place (get_or_default c.args.workers.now c.args.k c.index-workers-k.result w c.requires.place) c.add_padded.ensures.posts
