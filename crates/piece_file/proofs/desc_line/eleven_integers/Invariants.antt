use Rattle.std.proofs.Common.{◌≡◌, take, length}
use Rattle.line_text.specs.Words.{words}
use Rattle.piece_file.proofs.DescLineSteps.{IsReadTo}
use Rattle.piece_file.proofs.desc_line.eleven_integers.Given as goal

abbrev pub invariant-loop-k : goal.invariant-loop-k
invariant-loop-k l = IsReadTo (words l.line) (words l.rest) (take l.k l.numbers) × (length l.numbers ≡ 11)
