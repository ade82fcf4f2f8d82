-- Each row is appended in its turn.
use Rattle.std.specs.Prelude.{◌++◌}
use Rattle.std.specs.List.{flat_map, range_with_len}
use Rattle.std.proofs.Common.{arith, ap, sym, ◌∙◌}
use Rattle.mr2d.specs.Between.{meets_by}
use Rattle.mr2d.specs.Jobs.{half_of}
use Rattle.mr2d.proofs.ListLaws.{run_more, run_all, by_rows}
use Rattle.mr2d.proofs.lists.add_half.Goals as goal

pub loop-from-preserved : goal.loop-from-preserved
loop-from-preserved c = λ rs cs h k. run_more (λ from. flat_map (half_of c.args.half c.args.job.now.a c.args.job.now.b c.args.job.now.cut (meets_by c.args.job.now.cut c.args.job.now.source.now c.args.job.now.target.now rs cs) from) (range_with_len 0 c.args.ranks)) c.loop-from.from c.args.ops.now.items c.loop-from.ops.items c.add_row.new.ops.items (c.loop-from.invariant rs cs h k) (c.in_ok-add_row.ensures rs cs h k)

pub returns : goal.returns
returns c = λ rs cs h k. run_all (λ from. flat_map (half_of c.args.half c.args.job.now.a c.args.job.now.b c.args.job.now.cut (meets_by c.args.job.now.cut c.args.job.now.source.now c.args.job.now.target.now rs cs) from) (range_with_len 0 c.args.ranks)) c.loop-from.from c.args.ranks c.args.ops.now.items c.loop-from.ops.items (c.loop-from.invariant rs cs h k) (omega arith) (omega arith)
    ∙ ap (λ xs. c.args.ops.now.items ++ xs) (sym (by_rows (half_of c.args.half c.args.job.now.a c.args.job.now.b c.args.job.now.cut (meets_by c.args.job.now.cut c.args.job.now.source.now c.args.job.now.target.now rs cs)) c.args.ranks))
