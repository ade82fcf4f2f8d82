use Rattle.std.proofs.Common.{take}
use Rattle.line_text.specs.Words.{HasNoBlank}
use Rattle.line_text.proofs.words.word_length.Given as goal

abbrev pub invariant-loop-i : goal.invariant-loop-i
invariant-loop-i l = HasNoBlank (take l.i l.text)
