use Rattle.program_results.proofs.ResultLaws.{are_results}
use Rattle.program_results.proofs.laws.results_are_the_programs.Goals as goal

pub returns : goal.returns
returns c = are_results
