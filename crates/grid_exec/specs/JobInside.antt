-- A job as the code holds it.
use Rattle.grid_exec.specs.JobView.{JobView, IsReady}
use Rattle.grid_exec.specs.declared.job.Job.TheInside.{Inside}

abbrev pub job_view : Inside → JobView
job_view j = record { plan = j.plan; nodes = j.nodes.items; ends = j.ends }

abbrev pub IsJob : Inside → Type 0
IsJob j = IsReady (job_view j)
