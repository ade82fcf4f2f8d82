use Rattle.std.proofs.lemmas.List.{length-map}
use Rattle.block_meet.proofs.DealLemmas.{list_longer}
use Rattle.block_meet.proofs.pairs.put.Goals as goal

pub returns : goal.returns
returns c = list_longer c.args.lists.now.items c.args.k c.index_mut.result.now c.push.new.self c.args.index c.index_mut.ensures.value c.in_ok-push.ensures.items (simp length-map at c.requires)
