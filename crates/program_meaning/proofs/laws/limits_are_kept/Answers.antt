use Rattle.program_meaning.proofs.LineLaws.{few_words}
use Rattle.program_meaning.proofs.OperationLaws.{few_operations}
use Rattle.program_meaning.proofs.laws.limits_are_kept.Goals as goal

pub returns : goal.returns
returns c = record { words = few_words; operations = few_operations }
