use Rattle.std.proofs.Common.{◌≡◌, List, Ok, Err, Result, ◌∙◌, subst, sym}
use Rattle.grid_lang.specs.declared.line.Numbered.{Numbered}
use Rattle.grid_exec.specs.declared.err.ExecErr.{ExecErr}
use Rattle.grid_exec.specs.JobView.{JobView}
use Rattle.grid_exec.specs.Jobs.{IsJobOf}
use Rattle.grid_exec.specs.Answers.{IsProgramAnswer}
use Rattle.grid_exec.proofs.EndLaws.{split_first, answer_ok, answer_err}
use Rattle.grid_exec.proofs.plan.plan_program.Goals as goal

pub returns-in-Ok-make_job-clause-answer : goal.returns-in-Ok-make_job-clause-answer
returns-in-Ok-make_job-clause-answer g c =
    let whole = split_first c.lines-lines.result.now c.first-item.result c.in-len1-up.len_at_least c.first-item.is in
    subst (λ (ls : List Numbered). (let r : Result JobView ExecErr = Ok c.in-Ok-make_job.job in IsProgramAnswer r (g.S.Store.state c.args.store.now) ls)) (whole ∙ c.lines-lines.ensures.is)
    (answer_ok (g.S.Store.state c.args.store.now) c.first-item.result _ c.in-Ranks.n c.in-Ok-make_job.job c.in-Ok.ensures.done.0 c.in-Ranks.is c.in-Ok.ensures.done.1
    (subst (λ (ls : List Numbered). IsJobOf c.in-Ok-make_job.job c.in-Ok.ensures.done.0 ls) (sym whole) (c.in-Ok-make_job.ensures.done c.in-Ok.ensures.done.0 c.in-Ok.ensures.done.2)))

pub returns-in-Err-clause-answer : goal.returns-in-Err-clause-answer
returns-in-Err-clause-answer g c =
    let whole = split_first c.lines-lines.result.now c.first-item.result c.in-len1-up.len_at_least c.first-item.is in
    subst (λ (ls : List Numbered). (let r : Result JobView ExecErr = Err c.in-Err.e in IsProgramAnswer r (g.S.Store.state c.args.store.now) ls)) (whole ∙ c.lines-lines.ensures.is)
    (answer_err (g.S.Store.state c.args.store.now) c.first-item.result _ c.in-Ranks.n c.in-Err.e c.in-Ranks.is c.in-Err.ensures.done)
