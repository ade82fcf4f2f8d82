-- Each rank's operation is appended in its turn.
use Rattle.std.proofs.Common.{arith}
use Rattle.mr2d.specs.Between.{meets_by}
use Rattle.mr2d.specs.Jobs.{half_of}
use Rattle.mr2d.proofs.ListLaws.{run_more, run_all}
use Rattle.mr2d.proofs.lists.add_row.Goals as goal

pub loop-to-preserved : goal.loop-to-preserved
loop-to-preserved c = λ rs cs h k. run_more (half_of c.args.half c.args.job.now.a c.args.job.now.b c.args.job.now.cut (meets_by c.args.job.now.cut c.args.job.now.source.now c.args.job.now.target.now rs cs) c.args.from) c.loop-to.to c.args.ops.now.items c.loop-to.ops.items c.add_pair.new.ops.items (c.loop-to.invariant rs cs h k) (c.in_ok-add_pair.ensures rs cs h k)

pub returns : goal.returns
returns c = λ rs cs h k. run_all (half_of c.args.half c.args.job.now.a c.args.job.now.b c.args.job.now.cut (meets_by c.args.job.now.cut c.args.job.now.source.now c.args.job.now.target.now rs cs) c.args.from) c.loop-to.to c.args.ranks c.args.ops.now.items c.loop-to.ops.items (c.loop-to.invariant rs cs h k) (omega arith) (omega arith)
