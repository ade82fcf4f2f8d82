use Rattle.program_meaning.proofs.LineLaws.{refused_first, refused_there}
use Rattle.program_meaning.proofs.laws.first_refused_line.Goals as goal

pub returns : goal.returns
returns c = record { first = refused_first; there = refused_there }
