use Rattle.std.proofs.Common.{ap, refl}
use Rattle.tool_lines.specs.Texts.{store_fault}
use Rattle.file_tools.proofs.TellingLaws.{told_trouble}
use Rattle.file_tools.proofs.tell.tell.Goals as goal

pub returns-in-Failed : goal.returns-in-Failed
returns-in-Failed g c = told_trouble c.args.trouble.now _ _ _ _ (g.E.Sink.state c.tell_line-in-Failed.new.err) c.in-Failed.is (ap store_fault c.as_str-in-Failed.ensures) c.tell_line-in-Failed.ensures

pub returns-in-Output : goal.returns-in-Output
returns-in-Output g c = told_trouble c.args.trouble.now _ _ _ _ (g.E.Sink.state c.tell_line-in-Output.new.err) c.in-Output.is refl c.tell_line-in-Output.ensures
