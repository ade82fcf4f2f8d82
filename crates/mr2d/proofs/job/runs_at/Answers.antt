-- The runs of both axes.
use Rattle.mr2d.proofs.CommonLaws.{common_runs}
use Rattle.mr2d.proofs.job.runs_at.Goals as goal

pub returns-clause-common : goal.returns-clause-common
returns-clause-common c = common_runs c.args.job.now.cut c.args.job.now.source.now c.args.job.now.target.now c.args.job.now.rows c.args.job.now.columns c.in-Some.p c.in-Some-place.r c.in-Some.q c.in-Some-place.s _ _ c.args.job.now.fits c.in_ok-of.ensures.list c.in_ok-of-2.ensures.list c.in_ok-of.ensures.short c.in_ok-of-2.ensures.short
