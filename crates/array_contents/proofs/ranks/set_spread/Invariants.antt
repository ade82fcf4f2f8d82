use Rattle.std.proofs.Common.{◌≡◌, length, drop}
use Rattle.descriptor.specs.Good.{layout_of}
use Rattle.array_contents.specs.Contents.{arrays_of}
use Rattle.array_contents.specs.RankWords.{spread_rank}
use Rattle.array_contents.specs.Passes.{from_here}
use Rattle.array_contents.proofs.ranks.set_spread.Given as goal

abbrev pub invariant-loop-rank : goal.invariant-loop-rank
invariant-loop-rank l = record {
  done : from_here l.rank (spread_rank l.array l.source (layout_of l.spread l.ctx) l.ctx) (arrays_of l.ranks.items) ≡ from_here 0 (spread_rank l.array l.source (layout_of l.spread l.ctx) l.ctx) (arrays_of l.fn.ranks.items);
  left : drop l.rank l.ranks.items ≡ drop l.rank l.fn.ranks.items;
  long : length l.ranks.items ≡ length l.fn.ranks.items;
  room : length l.room ≡ length l.fn.room;
}
