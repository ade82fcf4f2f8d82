use Rattle.block_meet.proofs.LawLemmas.{only_runs}
use Rattle.block_meet.proofs.ExistLemmas.{all_runs}
use Rattle.block_meet.proofs.laws.runs_of_an_axis.Goals as goal

pub returns-clause-some : goal.returns-clause-some
returns-clause-some c = all_runs

pub returns-clause-only : goal.returns-clause-only
returns-clause-only c = only_runs
