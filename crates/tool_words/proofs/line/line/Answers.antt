use Rattle.std.proofs.Common.{◌∙◌, ap₂, arith}
use Rattle.clap.specs.Simple.{with_subcommand}
use Rattle.tool_words.specs.declared.command.Command.TheVariants.{Split}
use Rattle.tool_words.proofs.LineLemmas.{line_none, line_more}
use Rattle.tool_words.proofs.line.line.Goals as goal

pub loop-command-init : goal.loop-command-init
loop-command-init c = c.bare-line.ensures.app ∙ line_none

pub loop-command-preserved : goal.loop-command-preserved
loop-command-preserved c =
    c.in_ok-line.ensures.shape c.in_ok-subcommand.ensures.local
    ∙ ap₂ with_subcommand c.loop-command.invariant c.in_ok-subcommand.ensures.shape
    ∙ line_more c.every-commands.result c.loop-command.command-index Split (omega arith)
