use Rattle.std.proofs.Common.{◌≡◌, ◌++◌, length, take, drop}
use Rattle.program_meaning.specs.Declarations.{with_zeros}
use Rattle.array_contents.specs.Contents.{arrays_of}
use Rattle.array_contents.proofs.ranks.push_zeros.Given as goal

abbrev pub invariant-loop-rank : goal.invariant-loop-rank
invariant-loop-rank l = record {
  done : take l.rank (arrays_of l.ranks.items) ++ with_zeros (drop l.rank l.sizes) (drop l.rank (arrays_of l.ranks.items)) ≡ with_zeros l.sizes (arrays_of l.fn.ranks.items);
  long : length l.ranks.items ≡ length l.fn.ranks.items;
}
