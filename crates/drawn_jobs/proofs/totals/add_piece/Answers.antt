use Rattle.std.proofs.Common.{◌∙◌, rules, FitsSigned, to_z, of_z, to_z-of_z}
use Rattle.std.specs.Prelude.{map}
use Rattle.std.specs.Int.{w64}
use Rattle.pack_words.specs.GridState.{arrays_held}
use Rattle.drawn_jobs.proofs.AfterLaws.{after_more}
use Rattle.drawn_jobs.proofs.totals.add_piece.Goals as goal

pub returns-clause-sum : goal.returns-clause-sum
returns-clause-sum c =
    let fits : FitsSigned w64 c.plus.result = search rules in
    let before : FitsSigned w64 c.args.before = search rules in
    let more : FitsSigned w64 c.sum_at.result = search rules in
    to_z-of_z fits ∙ after_more (map arrays_held c.args.moved.now.nodes.items) c.args.k (to_z w64 (of_z w64 c.args.before)) (to_z w64 (of_z w64 c.sum_at.result)) c.plus.result (to_z-of_z before ∙ c.requires.before) (to_z-of_z more ∙ c.sum_at.ensures.sum) c.plus.ensures.sum
