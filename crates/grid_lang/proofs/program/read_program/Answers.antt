use Rattle.std.proofs.Common.{◌∙◌, ap, sym, List, Result, Ok}
use Rattle.line_text.specs.Formats.{Refusal}
use Rattle.grid_lang.specs.declared.fault.LangFault.{LangFault}
use Rattle.grid_lang.specs.declared.line.Numbered.{Numbered}
use Rattle.grid_lang.specs.ReaderViews.{state_of}
use Rattle.grid_lang.proofs.ProgramSteps.{ended, too_early}
use Rattle.grid_lang.proofs.FactLaws.{sound_of}
use Rattle.grid_lang.proofs.program.read_program.Goals as goal

abbrev given : List Numbered → Result (List Numbered) (Refusal LangFault)
given program = Ok program

pub new-requires : goal.new-requires
new-requires c =
    sound_of c.args.text.now c.in-Ok-finish.lines.items (ended c.args.text.now c.loop-line.rest.now c.loop-line.number (state_of c.loop-line.reader) c.in-Ok-finish.lines.items c.loop-line.invariant.0 c.in_default.ensures c.in-Ok-finish.ensures)

pub returns-in-Ok-finish : goal.returns-in-Ok-finish
returns-in-Ok-finish c =
    ended c.args.text.now c.loop-line.rest.now c.loop-line.number (state_of c.loop-line.reader) c.in-Ok-finish.lines.items c.loop-line.invariant.0 c.in_default.ensures c.in-Ok-finish.ensures
    ∙ ap given (sym c.new.ensures)

pub returns-in-Err-finish : goal.returns-in-Err-finish
returns-in-Err-finish c =
    too_early c.args.text.now c.loop-line.rest.now c.loop-line.number (state_of c.loop-line.reader) c.in-Err-finish.what c.loop-line.invariant.0 c.in_default.ensures c.in-Err-finish.ensures
