-- One rank more, and all ranks.
use Rattle.std.proofs.Common.{◌≡◌, ℕ, List, sym, ap, ◌∙◌, length, map, arith}
use Rattle.std.specs.List.{range_with_len}
use Rattle.std.proofs.lemmas.List.{length-map, length-replicate}
use Rattle.std.proofs.lemmas.List.FromFn.{length-map-range_with_len}
use Rattle.pack_words.specs.GridState.{scratch_needed}
use Rattle.pack_words.specs.GridShapes.{measures_of}
use Rattle.pack_words.proofs.Measures.{wanted, measures_in, held_in, one_rank, all_shaped, all_room}
use Rattle.scope_tests.proofs.memories.all_memories.Goals as goal

pub loop-rank-preserved : goal.loop-rank-preserved
loop-rank-preserved c = record {
  shaped = one_rank measures_in (λ r. wanted c.args.shapes.now r c.args.shapes.now.count) c.loop-rank.rank c.loop-rank.nodes.items _ _ c.loop-rank.invariant.shaped c.in_ok-push.ensures.items (ap measures_of c.in_ok-node.ensures.arrays ∙ c.in_ok-arrays.ensures);
  held = one_rank held_in (λ r. scratch_needed r c.args.plan.now.steps) c.loop-rank.rank c.loop-rank.nodes.items _ _ c.loop-rank.invariant.held c.in_ok-push.ensures.items (ap length c.in_ok-node.ensures.held ∙ length-replicate c.scratch_of.result _ ∙ c.scratch_of.ensures.exact);
}

pub returns-clause-shaped : goal.returns-clause-shaped
returns-clause-shaped c =
    let e : c.loop-rank.rank ≡ c.args.shapes.now.ranks = omega arith in
    all_shaped c.args.shapes.now c.loop-rank.nodes.items (c.loop-rank.invariant.shaped ∙ ap (λ n. map (λ r. wanted c.args.shapes.now r c.args.shapes.now.count) (range_with_len 0 n)) e)

pub returns-clause-room : goal.returns-clause-room
returns-clause-room c = all_room c.args.plan.now.steps c.loop-rank.rank c.loop-rank.nodes.items c.loop-rank.invariant.held

pub returns-clause-ranks : goal.returns-clause-ranks
returns-clause-ranks c =
    let e : c.loop-rank.rank ≡ c.args.shapes.now.ranks = omega arith in
    sym (length-map c.loop-rank.nodes.items held_in) ∙ ap (λ (l : List ℕ). length l) c.loop-rank.invariant.held ∙ length-map-range_with_len (λ r. scratch_needed r c.args.plan.now.steps) 0 c.loop-rank.rank ∙ e ∙ c.requires.ranks
