use Rattle.std.proofs.Common.{◌≤◌, length}
use Rattle.line_text.specs.Lines.{lines}
use Rattle.grid_lang.specs.ReaderViews.{state_of}
use Rattle.grid_lang.proofs.ProgramSteps.{IsReadTo}
use Rattle.grid_lang.proofs.program.read_program.Given as goal

abbrev pub invariant-loop-line : goal.invariant-loop-line
invariant-loop-line l = IsReadTo l.text l.number (state_of l.reader) l.rest × (l.number ≤ 4097)

abbrev pub decreases-loop-line : goal.decreases-loop-line
decreases-loop-line l = length (lines l.rest)
