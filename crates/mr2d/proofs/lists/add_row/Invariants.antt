-- The operations so far.
use Rattle.std.specs.Prelude.{◌≡◌, ◌++◌, List}
use Rattle.std.specs.List.{flat_map, range_with_len}
use Rattle.block_meet.specs.declared.axis.Run.{Run}
use Rattle.mr2d.specs.Between.{meets_by}
use Rattle.mr2d.specs.Jobs.{AreRunsOf, half_of}
use Rattle.mr2d.proofs.lists.add_row.Given as goal

abbrev pub invariant-loop-to : goal.invariant-loop-to
invariant-loop-to l = (rs cs : List Run) → AreRunsOf l.job.rows rs → AreRunsOf l.job.columns cs →
    l.ops.items ≡ l.initial.ops.items ++ flat_map (half_of l.half l.job.a l.job.b l.job.cut (meets_by l.job.cut l.job.source.now l.job.target.now rs cs) l.from) (range_with_len 0 l.to)
