use Rattle.std.proofs.Common.{take}
use Rattle.line_text.specs.Lines.{HasNoEnd}
use Rattle.line_text.proofs.lines.run_length.Given as goal

abbrev pub invariant-loop-i : goal.invariant-loop-i
invariant-loop-i l = HasNoEnd (take l.i l.text)
