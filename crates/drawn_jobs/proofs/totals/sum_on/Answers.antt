use Rattle.std.proofs.Common.{◌∙◌, rules, FitsSigned, to_z-of_z}
use Rattle.std.specs.Prelude.{map}
use Rattle.std.specs.Int.{w64}
use Rattle.pack_words.specs.GridState.{arrays_held}
use Rattle.piece_file.specs.PieceView.{piece_view}
use Rattle.piece_moves.specs.DistributionView.{distribution_view}
use Rattle.piece_moves.proofs.PlannedLaws.{is_distribution}
use Rattle.drawn_jobs.proofs.AfterLaws.{sum_stays}
use Rattle.drawn_jobs.proofs.totals.sum_on.Goals as goal

pub returns-clause-sum : goal.returns-clause-sum
returns-clause-sum c =
    let fits : FitsSigned w64 c.sum_moved-sum.result = search rules in
    to_z-of_z fits ∙ c.sum_moved-sum.ensures
    ∙ sum_stays (map piece_view c.args.pieces.items) (distribution_view c.args.to.now) (map arrays_held c.in_ok-moved.moved.nodes.items) c.requires.turns (is_distribution c.args.to.now) c.requires.few c.in_ok-moved.ensures.arrays
