use Rattle.std.proofs.Common.{rules, ◌<◌, length}
use Rattle.line_text.proofs.LineLaws.{ended_run, last_run}
use Rattle.line_text.proofs.lines.next_line.Goals as goal

pub returns-then-length-text : goal.returns-then-length-text
returns-then-length-text c = ended_run _ _ _ c.if-length-text.true c.run_length-length.ensures.free (c.run_length-length.ensures.stops c.if-length-text.true) c.trimmed-line.ensures

pub returns-else-length-text : goal.returns-else-length-text
returns-else-length-text c =
    let some : 0 < length c.args.text.now = search rules in
    last_run _ _ _ some c.if-length-text.false c.run_length-length.ensures.free c.trimmed-line.ensures
