use Rattle.std.proofs.Common.{◌≡◌, map}
use Rattle.std.specs.List.{range_with_len}
use Rattle.line_plans.specs.Maps.{column_entry}
use Rattle.line_plans.proofs.maps.by_columns.Given as goal

abbrev pub invariant-loop-k : goal.invariant-loop-k
invariant-loop-k l = l.all.items ≡ map (column_entry l.listed l.nprow l.npcol) (range_with_len 0 l.k)
