-- The operations so far.
use Rattle.std.specs.Prelude.{◌≡◌, ◌++◌, List}
use Rattle.std.specs.List.{flat_map, range_with_len}
use Rattle.block_meet.specs.declared.axis.Run.{Run}
use Rattle.mr2d.specs.Between.{meets_by}
use Rattle.mr2d.specs.Jobs.{AreRunsOf, half_of}
use Rattle.mr2d.proofs.lists.add_half.Given as goal

abbrev pub invariant-loop-from : goal.invariant-loop-from
invariant-loop-from l = (rs cs : List Run) → AreRunsOf l.job.rows rs → AreRunsOf l.job.columns cs →
    l.ops.items ≡ l.initial.ops.items ++ flat_map (λ from. flat_map (half_of l.half l.job.a l.job.b l.job.cut (meets_by l.job.cut l.job.source.now l.job.target.now rs cs) from) (range_with_len 0 l.ranks)) (range_with_len 0 l.from)
