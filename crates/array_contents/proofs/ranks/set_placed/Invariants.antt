use Rattle.std.proofs.Common.{◌≡◌, length, drop}
use Rattle.array_contents.specs.Contents.{arrays_of}
use Rattle.array_contents.specs.RankWords.{placed_rank}
use Rattle.array_contents.specs.Passes.{from_here}
use Rattle.array_contents.proofs.ranks.set_placed.Given as goal

abbrev pub invariant-loop-rank : goal.invariant-loop-rank
invariant-loop-rank l = record {
  done : from_here l.rank (placed_rank l.array l.filling) (arrays_of l.ranks.items) ≡ from_here 0 (placed_rank l.array l.filling) (arrays_of l.fn.ranks.items);
  left : drop l.rank l.ranks.items ≡ drop l.rank l.fn.ranks.items;
  long : length l.ranks.items ≡ length l.fn.ranks.items;
  room : length l.room ≡ length l.fn.room;
}
