-- One region more is copied.
use Rattle.pack_words.proofs.CopyWalk.{less, all_copied}
use Rattle.pack_words.proofs.copying.copy.Goals as goal

pub loop-source-preserved : goal.loop-source-preserved
loop-source-preserved c =
    less c.args.cut.now c.args.from.now c.args.to.now c.args.sources.now c.args.targets.now c.loop-source.to c.loop-source.before c.loop-source.after c.copy_region.new.to c.in-Some.source c.in-Some-next.target c.next.new.self c.next-in-Some.new.self c.loop-source.invariant c.in-Some.ensures c.in-Some-next.ensures c.copy_region.ensures.array c.copy_region.ensures.limits

pub returns : goal.returns
returns c =
    all_copied c.args.cut.now c.args.from.now c.args.to.now c.args.sources.now c.args.targets.now c.loop-source.to c.loop-source.before c.loop-source.after c.loop-source.invariant c.in_default.ensures
