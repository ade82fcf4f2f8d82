use Rattle.std.proofs.Common.{refl, sym, ap, ◌∙◌}
use Rattle.mm_grammar.specs.Matrix.{Matrix}
use Rattle.mm_text.specs.Loading.{matrix_of}
use Rattle.piece_grammar.specs.Head.{Head}
use Rattle.piece_file.specs.HeadView.{head_view}
use Rattle.piece_moves.specs.Distribution.{Distribution}
use Rattle.piece_moves.specs.DistributionView.{distribution_view}
use Rattle.drawn_jobs.specs.Dealing.{cells_at}
use Rattle.drawn_jobs.proofs.DrawnLaws.{cells_rows, columns_are}
use Rattle.drawn_jobs.proofs.dealing.deal_piece.Goals as goal

pub piece_array-requires-clause-lead : goal.piece_array-requires-clause-lead
piece_array-requires-clause-lead c =
    ap (λ (h : Head). h.lld) c.head-head.ensures ∙ sym (cells_rows (distribution_view c.args.to.now) (matrix_of c.args.whole.now) c.args.k)

pub invariant_of-result : goal.invariant_of-result
invariant_of-result c =
    let d : Distribution = distribution_view c.args.to.now in
    let m : Matrix = matrix_of c.args.whole.now in
    record {
      lead = c.in_ok-cells.ensures.lead;
      columns = columns_are d m c.args.k (cells_at d m c.args.k) (head_view c.head-head.result) c.in_ok-cells.cells.cols refl c.head-head.ensures c.in_ok-cells.ensures.columns;
    }
