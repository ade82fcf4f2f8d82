-- One rank more.
use Rattle.std.proofs.Common.{◌≡◌, map, ap, ◌∙◌, arith}
use Rattle.std.specs.List.{range_with_len}
use Rattle.pack_words.specs.GridShapes.{measures_of}
use Rattle.pack_words.proofs.Measures.{wanted, measures_in, one_rank, all_shaped}
use Rattle.move_tests.proofs.memories.all_memories.Goals as goal

pub loop-rank-preserved : goal.loop-rank-preserved
loop-rank-preserved c = one_rank measures_in (λ r. wanted c.args.shapes.now r c.args.shapes.now.count) c.loop-rank.rank c.loop-rank.nodes.items _ _ c.loop-rank.invariant c.in_ok-push.ensures.items (ap measures_of c.in_ok-node.ensures.arrays ∙ c.in_ok-arrays.ensures)

pub returns : goal.returns
returns c =
    let e : c.loop-rank.rank ≡ c.args.shapes.now.ranks = omega arith in
    all_shaped c.args.shapes.now c.loop-rank.nodes.items (c.loop-rank.invariant ∙ ap (λ n. map (λ r. wanted c.args.shapes.now r c.args.shapes.now.count) (range_with_len 0 n)) e)
