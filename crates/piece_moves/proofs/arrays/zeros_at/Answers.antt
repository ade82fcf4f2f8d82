use Rattle.std.proofs.Common.{◌≡◌, ◌*◌, ℕ, ap, ap₂, ◌∙◌, arith}
use Rattle.index_tools.specs.Spread.{spread, below}
use Rattle.pack_words.specs.ArrayRefusal.{array_refusal}
use Rattle.piece_grammar.specs.Head.{Head, array_columns}
use Rattle.piece_file.specs.HeadView.{head_view}
use Rattle.piece_moves.specs.Distribution.{Distribution, head_over}
use Rattle.piece_moves.specs.DistributionView.{distribution_view}
use Rattle.piece_moves.proofs.ArrayFits.{piece_accepted}
use Rattle.piece_moves.proofs.arrays.zeros_at.Goals as goal

pub zeros_of-requires-2 : goal.zeros_of-requires-2
zeros_of-requires-2 c =
    let h : Head = head_view c.args.first.now in
    let d : Distribution = distribution_view c.args.to.now in
    let head : head_view c.head-head.result ≡ head_over d h.m h.n c.args.r = c.head-head.ensures in
    let lead : c.head-head.result.lld ≡ (head_over d h.m h.n c.args.r).lld = ap (λ (x : Head). x.lld) head in
    let count : c.numroc.result ≡ below (spread d.nb 0 d.npcol) (head_over d h.m h.n c.args.r).pcol h.n = c.numroc.ensures.count ∙ ap (λ (x : Head). below (spread d.nb 0 d.npcol) x.pcol h.n) head in
    let columns : c.max-columns.result ≡ array_columns (head_over d h.m h.n c.args.r) = omega (arith, count, c.max-columns.ensures) in
    ap₂ (λ (x y : ℕ). array_refusal x y) lead columns ∙ piece_accepted h.m h.n d c.args.r (d.nprow * d.npcol) (omega (arith, c.if-r-to.false)) c.requires.head.rows_fit c.requires.few
