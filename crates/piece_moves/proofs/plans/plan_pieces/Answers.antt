use Rattle.std.proofs.Common.{◌≡◌, ◌≤◌, ◌*◌, ◌^◌, ◌++◌, List, length, sym, ap, subst, ◌∙◌, arith}
use Rattle.std.specs.Prelude.{map}
use Rattle.std.proofs.lemmas.List.{length-map}
use Rattle.pack_words.specs.RankOps.{RankState}
use Rattle.piece_grammar.specs.Head.{Head, Piece}
use Rattle.piece_file.specs.HeadView.{head_view}
use Rattle.piece_file.specs.PieceView.{piece_view}
use Rattle.piece_file.specs.declared.piece.Piece.{Piece as Held}
use Rattle.piece_moves.specs.Distribution.{Distribution}
use Rattle.piece_moves.specs.DistributionView.{distribution_view}
use Rattle.piece_moves.specs.PieceMove.{first_of, ranks_for, args_for, words_over, array_of, zeros_for}
use Rattle.piece_moves.specs.Planning.{IsPrepared}
use Rattle.piece_moves.proofs.ListLaws.{nodes_len, hold_two, have_shapes}
use Rattle.piece_moves.proofs.PlannedLaws.{pieces_fit, is_distribution, prepared}
use Rattle.std.specs.List.{AllByRecursion}
use Rattle.piece_moves.specs.Sizes.{size_in, AreWhole}
use Rattle.piece_moves.proofs.plans.plan_pieces.Goals as goal
use Rattle.piece_moves.proofs.plans.plan_pieces.Goals.{In_ok-shapes}

pub memories-requires-clause-pieces : goal.memories-requires-clause-pieces
memories-requires-clause-pieces c =
    let ps : List Piece = map piece_view c.args.pieces.items in
    let d : Distribution = distribution_view c.args.to.now in
    let first : head_view c.first_head-first.result ≡ first_of ps = c.first_head-first.ensures.view ∙ ap (λ (hs : List Held). first_of (map piece_view hs)) c.deref.ensures.value in
    let ranks : c.ranks_for-ranks.result ≡ ranks_for (first_of ps) d = c.ranks_for-ranks.ensures.ranks ∙ ap (λ (h : Head). ranks_for h d) first in
    let fit : length ps ≤ ranks_for (first_of ps) d = pieces_fit ps d c.requires.turns in
    omega (arith, ranks, fit, length-map c.args.pieces.items piece_view)

pub memories-requires-clause-few : goal.memories-requires-clause-few
memories-requires-clause-few c =
    let ps : List Piece = map piece_view c.args.pieces.items in
    let d : Distribution = distribution_view c.args.to.now in
    let first : head_view c.first_head-first.result ≡ first_of ps = c.first_head-first.ensures.view ∙ ap (λ (hs : List Held). first_of (map piece_view hs)) c.deref.ensures.value in
    let bound : words_over (first_of ps).m (first_of ps).n d (d.nprow * d.npcol) ≤ 2 ^ 26 = omega (arith, c.requires.few) in
    subst (λ (h : Head). words_over h.m h.n d (d.nprow * d.npcol) ≤ 2 ^ 26) (sym first) bound

pub shapes_of-requires : goal.shapes_of-requires
shapes_of-requires c =
    let count : length c.in_ok-nodes.nodes.items ≡ c.ranks_for-ranks.result = nodes_len c.in_ok-nodes.nodes.items _ c.ranks_for-ranks.result c.in_ok-nodes.ensures in
    omega (arith, count, c.ranks_for-ranks.ensures.few, ap length c.deref-3.ensures.value)

is_prepared : (c : In_ok-shapes) → IsPrepared (map piece_view c.args.pieces.items) (distribution_view c.args.to.now) c.in_ok-args.args c.in_ok-contexts.contexts c.in_ok-shapes.shapes c.in_ok-nodes.nodes.items
is_prepared c =
    let ps : List Piece = map piece_view c.args.pieces.items in
    let d : Distribution = distribution_view c.args.to.now in
    let nodes : List RankState = c.in_ok-nodes.nodes.items in
    let h : Head = head_view c.first_head-first.result in
    let first : h ≡ first_of ps = c.first_head-first.ensures.view ∙ ap (λ (hs : List Held). first_of (map piece_view hs)) c.deref.ensures.value in
    let args : c.in_ok-args.args ≡ args_for ps d = c.in_ok-args.ensures ∙ ap (λ (hs : List Held). args_for (map piece_view hs) d) c.deref-2.ensures.value in
    let here : c.deref-3.result.now ≡ nodes = c.deref-3.ensures.value in
    let sizes = subst (λ (ns : List RankState). c.in_ok-shapes.shapes ≡ record { ranks = length ns; count = 2; sizes = map (size_in 0) ns ++ map (size_in 1) ns }) here c.in_ok-shapes.ensures.sizes in
    let two = hold_two nodes (map array_of ps) (zeros_for h d) _ c.in_ok-nodes.ensures in
    let shapes = have_shapes c.in_ok-shapes.shapes nodes sizes two (subst (λ (ns : List RankState). AllByRecursion (AreWhole 0) ns) here c.in_ok-shapes.ensures.sources) (subst (λ (ns : List RankState). AllByRecursion (AreWhole 1) ns) here c.in_ok-shapes.ensures.targets) in
    prepared ps d c.in_ok-args.args c.in_ok-contexts.contexts c.in_ok-shapes.shapes nodes h c.ranks_for-ranks.result first c.ranks_for-ranks.ensures.ranks c.requires.turns (is_distribution c.args.to.now) c.requires.few args c.in_ok-contexts.ensures c.in_ok-nodes.ensures sizes shapes

pub plan_move-requires : goal.plan_move-requires
plan_move-requires c = (map piece_view c.args.pieces.items, (distribution_view c.args.to.now, is_prepared ((goal.at.plan_move-requires c).In_ok-shapes)))

pub returns : goal.returns
returns c = c.plan_move.ensures (map piece_view c.args.pieces.items) (distribution_view c.args.to.now) (is_prepared ((goal.at.returns c).In_ok-shapes))
