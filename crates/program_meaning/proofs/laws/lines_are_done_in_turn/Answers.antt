use Rattle.program_meaning.proofs.LineLaws.{in_turn}
use Rattle.program_meaning.proofs.laws.lines_are_done_in_turn.Goals as goal

pub returns : goal.returns
returns c = in_turn
