use Rattle.std.proofs.Common.{◌≡◌, ◌<◌, ℕ, max}
use Rattle.index_tools.specs.Home.{local_columns}
use Rattle.descriptor.specs.Good.{layout_of, lld_of}
use Rattle.pack_words.specs.GridShapes.{shape_of}
use Rattle.mr2d.specs.Homes.{rank_of}
use Rattle.move_tests.proofs.able.has_shape.Given as goal

abbrev pub invariant-loop-p : goal.invariant-loop-p
invariant-loop-p l = record {
  ranks : (p q : ℕ) → p < l.p → q < l.grid.npcol → rank_of l.grid p q < l.shapes.ranks;
  sizes : (p q : ℕ) → p < l.p → q < l.grid.npcol → shape_of l.shapes (rank_of l.grid p q) l.array ≡ (lld_of l.spread l.grid p q, max 1 (local_columns (layout_of l.spread l.grid) q));
}
