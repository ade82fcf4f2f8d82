-- The law.
use Rattle.pack_words.proofs.Kept.{plan_runs}
use Rattle.pack_words.proofs.grid_laws.plans_run.Goals as goal

pub returns : goal.returns
returns c = plan_runs
