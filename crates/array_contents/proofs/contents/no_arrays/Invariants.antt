use Rattle.std.proofs.Common.{◌≡◌, []}
use Rattle.std.specs.Prelude.{replicate}
use Rattle.array_contents.specs.Contents.{arrays_of}
use Rattle.array_contents.proofs.contents.no_arrays.Given as goal

abbrev pub invariant-loop-rank : goal.invariant-loop-rank
invariant-loop-rank l = arrays_of l.ranks.items ≡ replicate l._rank []
