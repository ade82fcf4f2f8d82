use Rattle.std.proofs.Common.{◌≡◌, ◌<◌, ℕ, max}
use Rattle.index_tools.specs.Home.{local_columns}
use Rattle.descriptor.specs.Good.{layout_of, lld_of}
use Rattle.pack_words.specs.GridShapes.{shape_of}
use Rattle.mr2d.specs.Homes.{rank_of}
use Rattle.move_tests.proofs.able.is_row_sized.Given as goal

abbrev pub invariant-loop-q : goal.invariant-loop-q
invariant-loop-q l = record {
  ranks : (q : ℕ) → q < l.q → rank_of l.grid l.p q < l.shapes.ranks;
  sizes : (q : ℕ) → q < l.q → shape_of l.shapes (rank_of l.grid l.p q) l.array ≡ (lld_of l.spread l.grid l.p q, max 1 (local_columns (layout_of l.spread l.grid) q));
}
