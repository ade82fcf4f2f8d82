use Rattle.program_meaning.proofs.FileSteps.{decided_line, decided_states, in_turn, few_reached}
use Rattle.program_meaning.proofs.laws.files_decide.Goals as goal

pub returns : goal.returns
returns c = record { line = decided_line; states = decided_states; turn = in_turn; words = few_reached }
