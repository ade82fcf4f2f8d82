use Rattle.std.proofs.Common.{◌≡◌, ℕ, [], ◌∷◌, length, ap, ◌∙◌, arith}
use Rattle.std.specs.Prelude.{map}
use Rattle.pack_words.specs.LocalCells.{LocalCells}
use Rattle.pack_words.specs.GridState.{arrays_held}
use Rattle.piece_file.specs.HeadView.{head_view}
use Rattle.piece_moves.specs.DistributionView.{distribution_view}
use Rattle.piece_moves.specs.PieceMove.{zeros_for}
use Rattle.piece_moves.proofs.ListLaws.{nodes_count, nodes_more}
use Rattle.piece_moves.proofs.arrays.nodes_of.Goals as goal

pub loop-source-preserved : goal.loop-source-preserved
loop-source-preserved c =
    let z : ℕ → LocalCells = zeros_for (head_view c.args.first.now) (distribution_view c.args.to.now) in
    let count : length c.loop-source.nodes.items ≡ length c.loop-source.yielded = nodes_count c.loop-source.nodes.items c.loop-source.yielded z c.loop-source.invariant in
    let rank : c.len-r.result ≡ length c.loop-source.yielded = omega (arith, c.len-r.ensures, count) in
    ap (map arrays_held) c.in_ok-push.ensures.items
    ∙ nodes_more c.loop-source.nodes.items c.in_ok-memory.field-0 c.loop-source.yielded c.in-Some.source z c.loop-source.invariant
    (c.in_ok-memory.ensures.arrays ∙ ap (λ (t : LocalCells). c.in-Some.source ∷ t ∷ []) (c.in_ok-target.ensures ∙ ap z rank))
