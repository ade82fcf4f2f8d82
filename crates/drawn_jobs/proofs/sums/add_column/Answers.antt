use Rattle.std.proofs.Common.{◌∙◌, rules, FitsSigned, to_z, of_z, to_z-of_z}
use Rattle.std.specs.Int.{w64}
use Rattle.drawn_jobs.proofs.SumLaws.{column_more}
use Rattle.drawn_jobs.proofs.sums.add_column.Goals as goal

pub returns-clause-sum : goal.returns-clause-sum
returns-clause-sum c =
    let fits : FitsSigned w64 c.plus.result = search rules in
    let before : FitsSigned w64 c.args.before = search rules in
    let more : FitsSigned w64 c.sum_column.result = search rules in
    to_z-of_z fits ∙ column_more c.args.cells.now c.args.j (to_z w64 (of_z w64 c.args.before)) (to_z w64 (of_z w64 c.sum_column.result)) c.plus.result (to_z-of_z before ∙ c.requires.before) (to_z-of_z more ∙ c.sum_column.ensures.sum) c.plus.ensures.sum
