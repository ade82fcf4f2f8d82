use Rattle.std.proofs.Common.{◌≡◌, take}
use Rattle.clap.specs.Words.{app_of}
use Rattle.tool_words.specs.Line.{line_of}
use Rattle.tool_words.proofs.line.line.Given as goal

abbrev pub invariant-loop-command : goal.invariant-loop-command
invariant-loop-command l = app_of l.line ≡ line_of (take l.command-index l.command-items)
